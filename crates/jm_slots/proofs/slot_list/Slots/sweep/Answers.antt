use Rattle.std.proofs.Common.{◌≡◌, ◌∙◌, Some, ap, arith, length, map, rules, sym}
use Rattle.std.specs.Prelude.{is_some}
use Rattle.std.proofs.lemmas.Fn.{filter_same}
use Rattle.std.proofs.lemmas.List.{length-map}
use Rattle.jm_slots.specs.Items.{gaps_from, items}
use Rattle.jm_slots.proofs.Items.{filter_items, gaps_none, items-gaps, items-map}
use Rattle.jm_slots.proofs.slot_list.Slots.sweep.Given.{Over}
use Rattle.jm_slots.proofs.slot_list.Slots.sweep.Goals as goal

-- what stays are the items, with no gaps
left : (g : Over) (c : goal.After-clear g) → c.retain.new.self.items ≡ map (λ x. Some x) (items c.self.inside.slots.items)
left g c = filter_same _ (λ o. is_some o) _ (λ x b f' k. search rules) _ _ c.retain.ensures.filtered ∙ filter_items c.self.inside.slots.items

-- so many there are
many : (g : Over) (c : goal.After-clear g) → length c.retain.new.self.items ≡ length (items c.self.inside.slots.items)
many g c = ap length (left g c) ∙ length-map (items c.self.inside.slots.items) (λ x. Some x)

pub invariant_of-self : goal.invariant_of-self
invariant_of-self g c = (
  c.clear.ensures.items ∙ sym (gaps_none 0 (items c.self.inside.slots.items)) ∙ ap (gaps_from 0) (sym (left g c)),
  omega (arith, many g c, items-gaps 0 c.self.inside.slots.items, c.self.invariant.1, c.clear.ensures.capacity),
)

pub returns-clause-slots : goal.returns-clause-slots
returns-clause-slots g c = rw (← c.self.view_is) (left g c)

pub returns-clause-items : goal.returns-clause-items
returns-clause-items g c = rw (← c.self.view_is) (ap items (left g c) ∙ items-map (items c.self.inside.slots.items))

pub returns-clause-spare : goal.returns-clause-spare
returns-clause-spare g c =
    rw (← c.self.view_is) (omega (arith, many g c, items-gaps 0 c.self.inside.slots.items, c.self.invariant.1, c.clear.ensures.capacity, c.retain.ensures.capacity, c.retain.new.self.ok, c.self.inside.slots.ok))

pub returns-clause-leaving : goal.returns-clause-leaving
returns-clause-leaving g c =
    rw (← c.self.view_is) (omega (arith, items-gaps 0 c.self.inside.slots.items, ap length c.self.invariant.0, c.clear.ensures.capacity, c.clear.ensures.len, c.self.inside.slots.ok, c.self.inside.gaps.ok))

pub returns-clause-eighth : goal.returns-clause-eighth
returns-clause-eighth g c =
    rw (← c.self.view_is) (omega (arith, items-gaps 0 c.self.inside.slots.items, c.self.invariant.1, c.clear.ensures.capacity, c.clear.ensures.len))
