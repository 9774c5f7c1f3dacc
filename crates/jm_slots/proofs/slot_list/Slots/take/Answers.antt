use Rattle.std.proofs.Common.{◌≡◌, ◌<◌, ◌∙◌, None, Some, ap, arith, cond, set, subst, sym}
use Rattle.std.specs.Prelude.{IsSome}
use Rattle.std.specs.List.{insert}
use Rattle.std.specs.List.Sorted.{IsStrictlyIncreasing}
use Rattle.std.specs.Vec.{vec_capacity, vec_len}
use Rattle.std.proofs.lemmas.List.{get_or_read, length-set}
use Rattle.jm_slots.specs.Items.{gaps_from, item_in, items}
use Rattle.jm_slots.proofs.Counts.{count_is, gap_comes}
use Rattle.jm_slots.proofs.Items.{gaps_rise, items-set_none, ok_is, some_within}
use Rattle.jm_slots.proofs.slot_list.Slots.take.Given.{Over}
use Rattle.jm_slots.proofs.slot_list.Slots.take.Goals as goal

-- the item that was taken stood in the slot
stood : (g : Over) (c : goal.After-unwrap g) → item_in c.self.inside.slots.items c.args.slot ≡ Some c.unwrap.result
stood g c =
    let slots = c.self.inside.slots.items in
    let there : IsSome (item_in slots c.args.slot) = subst (λ s. IsSome (item_in s.slots c.args.slot)) (sym c.self.view_is) c.requires.item in
    sym (get_or_read slots c.args.slot c.index_mut.result.now (some_within slots c.args.slot there) c.index_mut.ensures.value None) ∙ sym c.take.ensures.value ∙ c.unwrap.ensures

pub count_below-below-requires : goal.count_below-below-requires
count_below-below-requires g c = subst IsStrictlyIncreasing (sym (c.deref.ensures.value ∙ c.self.invariant.0)) (gaps_rise 0 c.self.inside.slots.items)

pub invariant_of-self : goal.invariant_of-self
invariant_of-self g c =
    let slots = c.self.inside.slots.items in
    let gaps = c.self.inside.gaps.items in
    let slot = c.args.slot in
    let below = c.count_below-below.result in
    let counted = c.count_below-below.ensures in
    let count = count_is slots c.deref.result.now (c.deref.ensures.value ∙ c.self.invariant.0) slot below counted.within counted.below counted.behind in
    let room : vec_len c.self.inside.gaps < vec_capacity c.self.inside.gaps = omega (arith, c.requires.leaving, ap (λ s. s.leaving) c.self.view_is) in
    let placed = ap (λ b. cond b (insert gaps below slot) gaps) (ok_is c.insert.result (c.insert.ensures.succeeds room)) in
    let comes : insert gaps below slot ≡ gaps_from 0 (set slots slot c.take.new.self) =
    gap_comes slots gaps c.self.invariant.0 slot below c.unwrap.result (stood g c) count ∙ ap (λ o. gaps_from 0 (set slots slot o)) (sym c.take.ensures.after) in (
      rw (c.insert.ensures.items, placed) comes,
      omega (arith, length-set slots slot c.take.new.self, c.self.invariant.1, c.insert.ensures.capacity),
    )

pub returns-clause-items : goal.returns-clause-items
returns-clause-items g c =
    rw (← c.self.view_is) (ap (λ o. items (set c.self.inside.slots.items c.args.slot o)) c.take.ensures.after ∙ items-set_none c.self.inside.slots.items c.args.slot c.unwrap.result (stood g c))
