use Rattle.std.proofs.Common.{◌≡◌, ◌<◌, ◌∙◌, ℕ, List, length, get_or, refl, arith}
use Rattle.std.proofs.lemmas.List.{get_or_read}
use Rattle.jm_gaps.proofs.Items.{item_read}
use Rattle.jm_machine.specs.Machine.{are_meant}
use Rattle.jm_pending.specs.Rows.{Held}
use Rattle.jm_stations.specs.Kept.{given_back}
use Rattle.jm_stations.proofs.Homes.{returned_home, returned_idle, returned_twice}
use Rattle.jm_stations.proofs.Sweeping.{IsPut, put_length, swept_all, swept_more, swept_none, swept_within}
use Rattle.jm_stations.proofs.outstanding.give_back_each.Goals as goal

pub loop-at-init : goal.loop-at-init
loop-at-init c = record {
  number = refl;
  swept = swept_none (given_back (are_meant c.args.which.now)) (returned_idle (are_meant c.args.which.now)) c.args.lists.now.items c.args.indexes.now.items c.requires.rising c.requires.others;
  capacity = refl;
}

-- the index at that place is that of a list
here : (indexes : List ℕ) (at i : ℕ) → at < length indexes → i ≡ get_or indexes at i → i ≡ get_or indexes at 0
here indexes at i l is = get_or_read indexes at i l is 0

pub at_mut-held-requires : goal.at_mut-held-requires
at_mut-held-requires c =
    let indexes = c.loop-at.indexes.items in
    let at = c.loop-at.at in
    let i : ℕ = c.index-index.result.now in
    let lt : at < length indexes = omega (arith, c.loop-at.invariant.number, c.loop-at-test.true, c.len-at-end.ensures) in
    let within = swept_within (given_back (are_meant c.args.which.now)) c.args.lists.now.items c.loop-at.lists.items indexes at c.loop-at.stay i c.loop-at.invariant.swept lt (here indexes at i lt c.index-index.ensures) in
    omega (arith, within, c.loop-at.invariant.swept.number)

pub loop-at-preserved : goal.loop-at-preserved
loop-at-preserved c =
    let h : Held = c.at_mut-held.result.now in
    let h' : Held = c.give_back-goes.new.held in
    let init = c.args.lists.now.items in
    let lists = c.loop-at.lists.items in
    let indexes = c.loop-at.indexes.items in
    let at = c.loop-at.at in
    let i : ℕ = c.index-index.result.now in
    let p = are_meant c.args.which.now in
    let lt : at < length indexes = omega (arith, c.loop-at.invariant.number, c.loop-at-test.true, c.len-at-end.ensures) in
    let is : i ≡ get_or indexes at 0 = here indexes at i lt c.index-index.ensures in
    let within = swept_within (given_back p) init lists indexes at c.loop-at.stay i c.loop-at.invariant.swept lt is in
    let value : h ≡ get_or lists i h = item_read lists i h c.at_mut-held.ensures.value in
    let put : IsPut indexes c.keep-stay.new.indexes.items c.loop-at.stay c.keep-stay.result at i c.give_back-goes.result = record { out = c.keep-stay.ensures.goes; put = c.keep-stay.ensures.stays } in
    record {
      number = put_length indexes c.keep-stay.new.indexes.items c.loop-at.stay c.keep-stay.result at i c.give_back-goes.result put ∙ c.loop-at.invariant.number;
      swept = swept_more (given_back p) (returned_twice p) (returned_home p) init lists indexes c.keep-stay.new.indexes.items h h' c.loop-at.stay c.keep-stay.result at i c.give_back-goes.result c.loop-at.invariant.swept put lt is within value c.give_back-goes.ensures.held c.give_back-goes.ensures.home;
      capacity = c.keep-stay.ensures.capacity ∙ c.loop-at.invariant.capacity;
    }

pub returns-clause-lists : goal.returns-clause-lists
returns-clause-lists c = swept_all (given_back (are_meant c.args.which.now)) c.args.lists.now.items c.loop-at.lists.items c.loop-at.indexes.items c.loop-at.at c.loop-at.stay c.loop-at.invariant.swept (omega (arith, c.loop-at.invariant.number, c.loop-at-test.false, c.len-at-end.ensures))
