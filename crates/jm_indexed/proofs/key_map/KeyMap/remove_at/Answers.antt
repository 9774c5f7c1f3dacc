use Rattle.std.proofs.Common.{◌≡◌, ◌<◌, ◌∙◌, None, ap, arith, length, subst, sym}
use Rattle.std.specs.List.{remove, slice_get}
use Rattle.std.specs.Map.{values_of}
use Rattle.std.specs.Vec.{vec_capacity}
use Rattle.std.proofs.lemmas.List.{length-set}
use Rattle.jm_indexed.specs.Entries.{entries_of}
use Rattle.jm_indexed.specs.Order.{IsIndexed}
use Rattle.jm_indexed.proofs.Changed.{IsOrder-take}
use Rattle.jm_indexed.proofs.Orders.{value_within}
use Rattle.jm_indexed.proofs.Slotted.{entries-take, length-entries, value_at}
use Rattle.jm_indexed.proofs.key_map.KeyMap.remove_at.Goals as goal

pub slot_of-gap-requires : goal.slot_of-gap-requires
slot_of-gap-requires g c =
    omega (
      arith,
      c.requires,
      ap (λ m. length m.entries) c.self.view_is,
      ap length c.sweep_to_leave.ensures.entries,
      length-entries c.sweep_to_leave.new.keys.items c.sweep_to_leave.new.values.slots c.sweep_to_leave.ensures.indexed.even,
    )

pub take-requires-clause-item : goal.take-requires-clause-item
take-requires-clause-item g c = c.slot_of-gap.ensures.there

pub take-requires-clause-leaving : goal.take-requires-clause-leaving
take-requires-clause-leaving g c =
    c.sweep_to_leave.ensures.leaving (omega (arith, c.requires, ap (λ m. length m.entries) c.self.view_is, ap length c.sweep_to_leave.ensures.entries))

pub invariant_of-self : goal.invariant_of-self
invariant_of-self g c =
    let keys = c.sweep_to_leave.new.keys.items in
    let slots = c.sweep_to_leave.new.values.slots in
    let it = c.sweep_to_leave.ensures.indexed in
    subst (λ vs. IsIndexed g.K.Ord.cmp keys vs c.sweep_to_leave.new.order.items c.sweep_to_leave.new.marks.items (vec_capacity c.sweep_to_leave.new.marks)) (sym c.take.ensures.slots)
    record {
      ordered = IsOrder-take g.met.K.Ord.total keys slots c.sweep_to_leave.new.order.items it.ordered c.slot_of-gap.result;
      even = length-set slots c.slot_of-gap.result None ∙ it.even;
      unmarked = it.unmarked;
      fits = it.fits;
    }

pub returns-clause-value : goal.returns-clause-value
returns-clause-value g c =
    let keys = c.sweep_to_leave.new.keys.items in
    let slots = c.sweep_to_leave.new.values.slots in
    rw (← c.self.view_is)
    (ap (λ es. slice_get (values_of es) c.args.index) (sym c.sweep_to_leave.ensures.entries)
    ∙ value_at keys slots c.args.index c.take.result c.sweep_to_leave.ensures.indexed.even (sym c.slot_of-gap.ensures.item ∙ c.take.ensures.item))

pub returns-clause-entries : goal.returns-clause-entries
returns-clause-entries g c =
    let keys = c.sweep_to_leave.new.keys.items in
    let slots = c.sweep_to_leave.new.values.slots in
    let slot = c.slot_of-gap.result in
    let it = c.sweep_to_leave.ensures.indexed in
    let even : length slots ≡ length keys = it.even in
    let within : slot < length keys = omega (arith, value_within slots slot c.slot_of-gap.ensures.there, even) in
    rw (← c.self.view_is)
    (ap (entries_of keys) c.take.ensures.slots ∙ entries-take keys slots slot within c.slot_of-gap.ensures.there ∙ ap (remove (entries_of keys slots)) c.slot_of-gap.ensures.index ∙ ap (λ es. remove es c.args.index) c.sweep_to_leave.ensures.entries)
