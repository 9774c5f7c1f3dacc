use Rattle.std.proofs.Common.{◌≡◌, ◌≤◌, ◌∙◌, Some, ap, arith, length, map, rules, sym}
use Rattle.std.specs.Prelude.{is_some}
use Rattle.std.proofs.lemmas.Fn.{filter_same}
use Rattle.std.proofs.lemmas.List.{length-map}
use Rattle.jm_slots.specs.Items.{gaps_from, items}
use Rattle.jm_slots.specs.Marks.{marked_below}
use Rattle.jm_slots.proofs.Items.{filter_items, gaps_none, items-shorter}
use Rattle.jm_slots.proofs.Marked.{marked-shorter}
use Rattle.jm_slots.proofs.slot_list.Slots.retain_marked.Given.{Over}
use Rattle.jm_slots.proofs.slot_list.Slots.retain_marked.Goals as goal

-- what stays are the items that are marked, with no gaps
left : (g : Over) (c : goal.After-clear g) → c.retain.new.self.items ≡ map (λ x. Some x) (items (marked_below c.args.gone c.args.marks.now c.self.inside.slots.items))
left g c =
    filter_same _ (λ o. is_some o) _ (λ x b f' k. search rules) _ _ c.retain.ensures.filtered ∙ filter_items c.keep_marked.new.items.items
    ∙ ap (λ xs. map (λ x. Some x) (items xs)) c.keep_marked.ensures.items

-- no more than there were slots
few : (g : Over) (c : goal.After-clear g) → length c.retain.new.self.items ≤ length c.self.inside.slots.items
few g c =
    let stays = marked_below c.args.gone c.args.marks.now c.self.inside.slots.items in
    omega (arith, ap length (left g c), length-map (items stays) (λ x. Some x), items-shorter stays, marked-shorter c.args.gone c.args.marks.now c.self.inside.slots.items)

pub invariant_of-self : goal.invariant_of-self
invariant_of-self g c = (
  c.clear.ensures.items ∙ sym (gaps_none 0 (items (marked_below c.args.gone c.args.marks.now c.self.inside.slots.items))) ∙ ap (gaps_from 0) (sym (left g c)),
  omega (arith, few g c, c.self.invariant.1, c.clear.ensures.capacity),
)

pub returns-clause-slots : goal.returns-clause-slots
returns-clause-slots g c = rw (← c.self.view_is) (left g c)

pub returns-clause-spare : goal.returns-clause-spare
returns-clause-spare g c =
    rw (← c.self.view_is) (omega (arith, few g c, c.self.invariant.1, c.clear.ensures.capacity, c.retain.ensures.capacity, c.keep_marked.ensures.capacity, c.retain.new.self.ok, c.self.inside.slots.ok))

pub returns-clause-leaving : goal.returns-clause-leaving
returns-clause-leaving g c =
    rw (← c.self.view_is) (omega (arith, c.clear.ensures.capacity, c.clear.ensures.len))

pub returns-clause-eighth : goal.returns-clause-eighth
returns-clause-eighth g c =
    omega (arith, few g c, c.self.invariant.1, c.clear.ensures.capacity, c.clear.ensures.len)
