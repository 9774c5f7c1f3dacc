use Rattle.std.proofs.Common.{◌≡◌, ◌<◌, ◌∙◌, ap, sym, arith, drop, length, get_or, ◌∷◌, ◌++◌}
use Rattle.std.proofs.lemmas.List.Elements.{All-get_or}
use Rattle.std.specs.Vec.Iter.{into_iter_items}
use Rattle.jm_parted.specs.Parts.{of_owner}
use Rattle.jm_parted.proofs.Owned.{drop-owner, owner_left, parted_step}
use Rattle.jm_parted.proofs.parts.parted.Goals as goal

pub loop-index-preserved : goal.loop-index-preserved
loop-index-preserved g c =
    let i = c.loop-index.index-iterator.count in
    let owners = c.args.owners.now in
    let next = c.next.new.self in
    let steps = c.in-Some.ensures.steps in
    let inv = c.loop-index.invariant in
    let less : i < length owners = owner_left owners i c.in-Some.item (into_iter_items next.iter) (into_iter_items c.loop-index.index-iterator.iter) inv.left steps.0.0 in
    let o : get_or owners c.in-Some.index 0 ≡ get_or owners i 0 = ap (λ n. get_or owners n 0) steps.1 in
    let own : get_or owners c.in-Some.index 0 < c.args.count = All-get_or (λ owner. owner < c.args.count) owners c.in-Some.index 0 (omega (arith, less, steps.1)) c.requires.owners in
    let split : drop i owners ≡ get_or owners c.in-Some.index 0 ∷ drop next.count owners =
    drop-owner owners i less ∙ ap (λ n. get_or owners i 0 ∷ drop n owners) (sym steps.2) ∙ ap (λ n. n ∷ drop next.count owners) (sym o) in
    record {
      len = inv.len;
      left = omega (arith, inv.left, ap length steps.0.0, ap length split);
      parts = λ k d below.
          parted_step (λ v. v.items) k (get_or owners c.in-Some.index 0) c.args.count (drop next.count owners) c.in-Some.item (into_iter_items next.iter)
          c.loop-index.parts.items c.index_mut.result.now c.push.new.self d _
          (omega (arith, c.loop-index.parts.ok, inv.len)) own c.index_mut.ensures.value c.in_ok-push.ensures.items
          (ap (λ os. (get_or c.loop-index.parts.items k d).items ++ of_owner k os (c.in-Some.item ∷ into_iter_items next.iter)) (sym split)
          ∙ ap (λ more. (get_or c.loop-index.parts.items k d).items ++ of_owner k (drop i owners) more) (sym steps.0.0) ∙ inv.parts k d below);
    }
