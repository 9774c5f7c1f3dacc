use Rattle.std.proofs.Common.{◌≡◌, ◌+◌, ◌≤◌, ◌∙◌, arith, ap, length, subst, sym}
use Rattle.std.specs.List.{slice_get}
use Rattle.std.specs.List.Sorted.{IsStrictlyIncreasing}
use Rattle.jm_slots.specs.Items.{items, items_before}
use Rattle.jm_slots.proofs.Counts.{count_is, index_is}
use Rattle.jm_slots.proofs.Items.{gaps_rise, item_there}
use Rattle.jm_slots.proofs.slot_list.Slots.index_of.Given.{Over}
use Rattle.jm_slots.proofs.slot_list.Slots.index_of.Goals as goal

-- what stands before the slot are items and the gaps that were counted
counted : (g : Over) (c : goal.After-count_below g) → items_before c.self.inside.slots.items c.args.slot + c.count_below.result ≡ c.args.slot
counted g c =
    let slots = c.self.inside.slots.items in
    let within : c.args.slot ≤ length slots = omega (arith, c.requires, ap (λ s. length s.slots) c.self.view_is) in
    let below = c.count_below.ensures in
    index_is slots c.deref.result.now (c.deref.ensures.value ∙ c.self.invariant.0) c.args.slot c.count_below.result within
    (count_is slots c.deref.result.now (c.deref.ensures.value ∙ c.self.invariant.0) c.args.slot c.count_below.result below.within below.below below.behind)

pub count_below-requires : goal.count_below-requires
count_below-requires g c = subst IsStrictlyIncreasing (sym (c.deref.ensures.value ∙ c.self.invariant.0)) (gaps_rise 0 c.self.inside.slots.items)

pub overflow_sub-result : goal.overflow_sub-result
overflow_sub-result g c = omega (arith, counted g c)

pub returns-clause-index : goal.returns-clause-index
returns-clause-index g c = rw (← c.self.view_is) (omega (arith, counted g c))

pub returns-clause-item : goal.returns-clause-item
returns-clause-item g c =
    let slots = c.self.inside.slots.items in
    rw (← c.self.view_is) (λ h. ap (slice_get (items slots)) (omega (arith, counted g c)) ∙ item_there slots c.args.slot h)
