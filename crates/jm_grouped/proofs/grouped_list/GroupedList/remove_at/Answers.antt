use Rattle.std.proofs.Common.{◌≡◌, ◌<◌, ◌∙◌, None, ap, arith, length, subst, sym}
use Rattle.std.specs.List.{remove}
use Rattle.std.specs.Vec.{vec_capacity}
use Rattle.std.proofs.lemmas.List.{length-set}
use Rattle.jm_grouped.specs.Grouped.{items_of}
use Rattle.jm_grouped.specs.Order.{IsGrouped}
use Rattle.jm_grouped.proofs.Changed.{IsOrder-take}
use Rattle.jm_grouped.proofs.Taken.{items_of-take, length-items_of, taken_within}
use Rattle.jm_grouped.proofs.grouped_list.GroupedList.remove_at.Goals as goal

pub slot_of-gap-requires : goal.slot_of-gap-requires
slot_of-gap-requires g c =
    omega (
      arith,
      c.requires,
      ap (λ l. length l.items) c.self.view_is,
      ap length c.sweep_to_leave.ensures.items,
      length-items_of c.sweep_to_leave.new.items.items c.sweep_to_leave.new.slots.slots c.sweep_to_leave.ensures.grouped.even,
    )

pub take-requires-clause-item : goal.take-requires-clause-item
take-requires-clause-item g c = c.slot_of-gap.ensures.there

pub take-requires-clause-leaving : goal.take-requires-clause-leaving
take-requires-clause-leaving g c =
    c.sweep_to_leave.ensures.leaving (omega (arith, c.requires, ap (λ l. length l.items) c.self.view_is, ap length c.sweep_to_leave.ensures.items))

pub invariant_of-self : goal.invariant_of-self
invariant_of-self g c =
    let items = c.sweep_to_leave.new.items.items in
    let slots = c.sweep_to_leave.new.slots.slots in
    let it = c.sweep_to_leave.ensures.grouped in
    subst (λ vs. IsGrouped g.T.Ord.cmp items vs c.sweep_to_leave.new.order.items c.sweep_to_leave.new.marks.items (vec_capacity c.sweep_to_leave.new.marks)) (sym c.take.ensures.slots)
    record {
      ordered = IsOrder-take items slots c.sweep_to_leave.new.order.items it.ordered c.slot_of-gap.result;
      even = length-set slots c.slot_of-gap.result None ∙ it.even;
      unmarked = it.unmarked;
      fits = it.fits;
    }

pub returns-clause-items : goal.returns-clause-items
returns-clause-items g c =
    let items = c.sweep_to_leave.new.items.items in
    let slots = c.sweep_to_leave.new.slots.slots in
    let slot = c.slot_of-gap.result in
    let it = c.sweep_to_leave.ensures.grouped in
    let even : length slots ≡ length items = it.even in
    let within : slot < length items = omega (arith, taken_within slots slot c.slot_of-gap.ensures.there, even) in
    rw (← c.self.view_is)
    (ap (items_of items) c.take.ensures.slots ∙ items_of-take items slots slot within c.slot_of-gap.ensures.there ∙ ap (remove (items_of items slots)) c.slot_of-gap.ensures.index ∙ ap (λ xs. remove xs c.args.index) c.sweep_to_leave.ensures.items)
