use Rattle.std.proofs.Common.{◌≡◌, ◌+◌, ◌<◌, ◌∙◌, arith, ap, length, subst, sym}
use Rattle.std.specs.Prelude.{IsSome}
use Rattle.std.specs.List.{slice_get}
use Rattle.std.specs.List.Sorted.{IsStrictlyIncreasing}
use Rattle.jm_slots.specs.Items.{item_in, items}
use Rattle.jm_slots.proofs.Counts.{slot_index, slot_item, slot_within}
use Rattle.jm_slots.proofs.Items.{gaps_rise, some_at}
use Rattle.jm_slots.proofs.slot_list.Slots.slot_of.Given.{Over}
use Rattle.jm_slots.proofs.slot_list.Slots.slot_of.Goals as goal

inside : (g : Over) (c : goal.After-count_passed g) → c.args.index < length (items c.self.inside.slots.items)
inside g c = omega (arith, c.requires, ap (λ s. length (items s.slots)) c.self.view_is)

-- the item of the index stands in the slot that was found
found : (g : Over) (c : goal.After-count_passed g) → item_in c.self.inside.slots.items (c.args.index + c.count_passed.result) ≡ slice_get (items c.self.inside.slots.items) c.args.index
found g c =
    let passed = c.count_passed.ensures in
    slot_item c.self.inside.slots.items c.deref.result.now (c.deref.ensures.value ∙ c.self.invariant.0) c.args.index c.count_passed.result (inside g c) passed.within passed.passed passed.ahead

pub count_passed-requires : goal.count_passed-requires
count_passed-requires g c = subst IsStrictlyIncreasing (sym (c.deref.ensures.value ∙ c.self.invariant.0)) (gaps_rise 0 c.self.inside.slots.items)

pub overflow_add-result : goal.overflow_add-result
overflow_add-result g c =
    let passed = c.count_passed.ensures in
    let within = slot_within c.self.inside.slots.items c.deref.result.now (c.deref.ensures.value ∙ c.self.invariant.0) c.args.index c.count_passed.result (inside g c) passed.within passed.passed passed.ahead in
    omega (arith, within, c.self.inside.slots.ok, c.self.inside.slots.small)

pub returns-clause-there : goal.returns-clause-there
returns-clause-there g c = rw (← c.self.view_is) (subst IsSome (sym (found g c)) (some_at (items c.self.inside.slots.items) c.args.index (inside g c)))

pub returns-clause-item : goal.returns-clause-item
returns-clause-item g c = rw (← c.self.view_is) (found g c)

pub returns-clause-index : goal.returns-clause-index
returns-clause-index g c =
    let passed = c.count_passed.ensures in
    rw (← c.self.view_is) (slot_index c.self.inside.slots.items c.deref.result.now (c.deref.ensures.value ∙ c.self.invariant.0) c.args.index c.count_passed.result (inside g c) passed.within passed.passed passed.ahead)
