use Rattle.std.proofs.Common.{◌≡◌, ◌<◌, ◌∙◌, ℕ, List, length, get_or, subst, sym, refl, arith}
use Rattle.std.proofs.lemmas.List.{get_or_read}
use Rattle.jm_gaps.proofs.Items.{item_read}
use Rattle.jm_machine.specs.Machine.{are_meant}
use Rattle.jm_pending.specs.Rows.{Held}
use Rattle.jm_lane.specs.Holders.{Covers, Follows}
use Rattle.jm_stations.specs.Kept.{settled_out}
use Rattle.jm_stations.proofs.Holders.{covers_one, counted_one}
use Rattle.jm_stations.proofs.Each.{settled_keeps, keeps_all}
use Rattle.jm_stations.proofs.Homes.{settled_home, settled_idle, settled_twice}
use Rattle.jm_stations.proofs.Sweeping.{IsPut, put_length, swept_all, swept_more, swept_none, swept_within}
use Rattle.jm_stations.proofs.outstanding.settle_each.Goals as goal

pub loop-at-init : goal.loop-at-init
loop-at-init c = record {
  number = refl;
  swept = swept_none (settled_out (are_meant c.args.which.now)) (settled_idle (are_meant c.args.which.now)) c.args.lists.now.items c.args.indexes.now.items c.requires.rising c.requires.others;
  counted = c.requires.counted;
  messages = keeps_all c.args.table.now;
  capacity = refl;
}

-- the index at that place is that of a list
here : (indexes : List ℕ) (at i : ℕ) → at < length indexes → i ≡ get_or indexes at i → i ≡ get_or indexes at 0
here indexes at i l is = get_or_read indexes at i l is 0

pub at_mut-held-requires : goal.at_mut-held-requires
at_mut-held-requires c =
    let indexes = c.loop-at.indexes.items in
    let at = c.loop-at.at in
    let i : ℕ = c.index-index.result.now in
    let lt : at < length indexes = omega (arith, c.loop-at.invariant.number, c.loop-at-test.true, c.len-at-end.ensures) in
    let within = swept_within (settled_out (are_meant c.args.which.now)) c.args.lists.now.items c.loop-at.lists.items indexes at c.loop-at.stay i c.loop-at.invariant.swept lt (here indexes at i lt c.index-index.ensures) in
    omega (arith, within, c.loop-at.invariant.swept.number)

pub settle-goes-requires : goal.settle-goes-requires
settle-goes-requires c =
    let h : Held = c.at_mut-held.result.now in
    let lists = c.loop-at.lists.items in
    let indexes = c.loop-at.indexes.items in
    let at = c.loop-at.at in
    let i : ℕ = c.index-index.result.now in
    let lt : at < length indexes = omega (arith, c.loop-at.invariant.number, c.loop-at-test.true, c.len-at-end.ensures) in
    let within = swept_within (settled_out (are_meant c.args.which.now)) c.args.lists.now.items lists indexes at c.loop-at.stay i c.loop-at.invariant.swept lt (here indexes at i lt c.index-index.ensures) in
    let inside : i < length lists = omega (arith, within, c.loop-at.invariant.swept.number) in
    subst (λ (x : Held). Covers c.loop-at.table x.rows) (sym (item_read lists i h c.at_mut-held.ensures.value)) (covers_one c.loop-at.table lists i h inside c.loop-at.invariant.counted)

pub loop-at-preserved : goal.loop-at-preserved
loop-at-preserved c =
    let h : Held = c.at_mut-held.result.now in
    let h' : Held = c.settle-goes.new.held in
    let init = c.args.lists.now.items in
    let lists = c.loop-at.lists.items in
    let indexes = c.loop-at.indexes.items in
    let at = c.loop-at.at in
    let i : ℕ = c.index-index.result.now in
    let p = are_meant c.args.which.now in
    let lt : at < length indexes = omega (arith, c.loop-at.invariant.number, c.loop-at-test.true, c.len-at-end.ensures) in
    let is : i ≡ get_or indexes at 0 = here indexes at i lt c.index-index.ensures in
    let within = swept_within (settled_out p) init lists indexes at c.loop-at.stay i c.loop-at.invariant.swept lt is in
    let inside : i < length lists = omega (arith, within, c.loop-at.invariant.swept.number) in
    let value : h ≡ get_or lists i h = item_read lists i h c.at_mut-held.ensures.value in
    let put : IsPut indexes c.keep-stay.new.indexes.items c.loop-at.stay c.keep-stay.result at i c.settle-goes.result = record { out = c.keep-stay.ensures.goes; put = c.keep-stay.ensures.stays } in
    record {
      number = put_length indexes c.keep-stay.new.indexes.items c.loop-at.stay c.keep-stay.result at i c.settle-goes.result put ∙ c.loop-at.invariant.number;
      swept = swept_more (settled_out p) (settled_twice p) (settled_home p) init lists indexes c.keep-stay.new.indexes.items h h' c.loop-at.stay c.keep-stay.result at i c.settle-goes.result c.loop-at.invariant.swept put lt is within value c.settle-goes.ensures.held c.settle-goes.ensures.home;
      counted = counted_one c.loop-at.table c.settle-goes.new.table lists i h h' inside c.loop-at.invariant.counted (subst (λ (x : Held). Follows c.loop-at.table c.settle-goes.new.table x.rows h'.rows) value c.settle-goes.ensures.table);
      messages = settled_keeps p c.args.table.now c.loop-at.table c.settle-goes.new.table h h' c.settle-goes.ensures.held c.loop-at.invariant.messages c.settle-goes.ensures.table;
      capacity = c.keep-stay.ensures.capacity ∙ c.loop-at.invariant.capacity;
    }

pub returns-clause-lists : goal.returns-clause-lists
returns-clause-lists c = swept_all (settled_out (are_meant c.args.which.now)) c.args.lists.now.items c.loop-at.lists.items c.loop-at.indexes.items c.loop-at.at c.loop-at.stay c.loop-at.invariant.swept (omega (arith, c.loop-at.invariant.number, c.loop-at-test.false, c.len-at-end.ensures))
