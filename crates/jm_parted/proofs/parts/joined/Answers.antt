use Rattle.std.proofs.Common.{◌≡◌, ◌<◌, ◌+◌, ◌∙◌, ℕ, [], ap, sym, arith, length, get_or, set, reverse, take, drop, vec_len, length-take-le, rules, ◌∷◌, ◌++◌}
use Rattle.std.proofs.lemmas.List.{reverse-reverse}
use Rattle.std.proofs.lemmas.List.Elements.{All-get_or}
use Rattle.jm_parted.specs.Parts.{count_of, of_owner}
use Rattle.jm_parted.proofs.Owned.{drop-owner, joined_all, joined_step, left_step, take-owner, whole}
use Rattle.jm_parted.proofs.parts.joined.Goals as goal

pub loop-owner-init : goal.loop-owner-init
loop-owner-init g c =
    let all = c.args.parts.items in
    let now = c.deref_mut.result.now in
    let new = c.reversed.new.parts in
    let size : length new ≡ c.args.parts.len = c.reversed.ensures.len ∙ c.deref_mut.ensures.len in
    let same : take c.args.parts.len (new ++ drop (length new) all) ≡ new = whole c.args.parts.len new (drop (length new) all) size in
    let below : (k : ℕ) → k < c.args.parts.len → k < length now = λ k h. omega (arith, h, c.deref_mut.ensures.len) in
    record {
      len = search rules;
      room = c.requires.room;
      count = search rules;
      parts = λ k d h.
          ap (λ vs. reverse (get_or vs k d).items) same ∙ ap reverse (c.reversed.ensures.each k d (below k h))
          ∙ reverse-reverse (get_or now k d).items ∙ ap (λ vs. (get_or vs k d).items) c.deref_mut.ensures.value;
      left = λ k d h.
          ap (λ vs. vec_len (get_or vs k d)) same ∙ c.reversed.ensures.lens k d (below k h)
          ∙ ap (λ vs. vec_len (get_or vs k d)) c.deref_mut.ensures.value ∙ c.requires.parts k d h;
    }

pub loop-owner-preserved : goal.loop-owner-preserved
loop-owner-preserved g c =
    let i = c.loop-owner.owner-index in
    let owners = c.args.owners.now in
    let inv = c.loop-owner.invariant in
    let less : i < length owners = c.loop-owner-test.true in
    let popped : vec_len c.pop.new.self + 1 ≡ vec_len c.index_mut.result.now = c.in-Some.ensures.cases in
    let same : length (take i owners) ≡ length c.loop-owner.list.items = omega (arith, length-take-le i owners (omega (arith, less)), inv.len, c.loop-owner.list.ok) in
    let own : get_or owners i 0 < vec_len c.args.parts = All-get_or (λ owner. owner < vec_len c.args.parts) owners i 0 less c.requires.owners in
    let size : length c.loop-owner.parts.items ≡ vec_len c.args.parts = omega (arith, c.loop-owner.parts.ok, inv.count) in
    record {
      len = omega (arith, inv.len, c.push_reserved.ensures.len);
      room = omega (arith, inv.room, c.push_reserved.ensures.capacity);
      count = inv.count;
      parts = λ k d h.
          ap (λ xs. of_owner k (take (i + 1) owners) xs ++ reverse (get_or (set c.loop-owner.parts.items (get_or owners i 0) c.pop.new.self) k d).items) c.push_reserved.ensures.items
          ∙ ap (λ os. of_owner k os (c.loop-owner.list.items ++ c.in-Some.item ∷ []) ++ reverse (get_or (set c.loop-owner.parts.items (get_or owners i 0) c.pop.new.self) k d).items) (take-owner owners i less)
          ∙ joined_step (λ v. v.items) k (get_or owners i 0) (vec_len c.args.parts) (take i owners) c.loop-owner.list.items c.in-Some.item c.loop-owner.parts.items
          c.index_mut.result.now c.pop.new.self d _ same size own c.index_mut.ensures.value c.in-Some.ensures.items (inv.parts k d h);
      left = λ k d h.
          left_step (λ v. vec_len v) k (get_or owners i 0) (vec_len c.args.parts) (drop (i + 1) owners) c.loop-owner.parts.items c.index_mut.result.now c.pop.new.self d
          size own c.index_mut.ensures.value popped (inv.left k d h ∙ ap (count_of k) (drop-owner owners i less));
    }

pub returns-clause-parts : goal.returns-clause-parts
returns-clause-parts g c = λ k d h.
    (let inv = c.loop-owner.invariant in
    let left = get_or c.loop-owner.parts.items k d in
    joined_all k c.loop-owner.owner-index c.args.owners.now c.loop-owner.list.items left.items _ c.loop-owner-test.false (sym left.ok.0 ∙ inv.left k d h) (inv.parts k d h))
