use Rattle.std.proofs.Common.{◌∙◌, ◌++◌, ◌∷◌, [], Some, ap, arith, length, subst, sym}
use Rattle.std.specs.List.{Contains}
use Rattle.std.proofs.lemmas.List.{length_push}
use Rattle.jm_grouped.specs.Grouped.{items_of}
use Rattle.jm_grouped.specs.Order.{IsRising}
use Rattle.jm_grouped.proofs.Changed.{IsOrder-push}
use Rattle.jm_grouped.proofs.Taken.{items_of-push}
use Rattle.jm_grouped.proofs.grouped_list.GroupedList.push.Goals as goal

pub insert_slot-requires-clause-order : goal.insert_slot-requires-clause-order
insert_slot-requires-clause-order g c = subst (λ xs. IsRising g.T.Ord.cmp xs c.self.inside.order.items) (sym c.as_slice.ensures.value) c.self.invariant.ordered.rises

pub invariant_of-self : goal.invariant_of-self
invariant_of-self g c =
    let items = c.self.inside.items.items in
    let slots = c.self.inside.slots.slots in
    let value = c.args.value in
    let order = c.insert_slot.new.order.items in
    let rises = subst (λ xs. IsRising g.T.Ord.cmp (xs ++ value ∷ []) order) c.as_slice.ensures.value c.insert_slot.ensures.order in
    let there = subst (λ xs. Contains order (length xs)) c.as_slice.ensures.value c.insert_slot.ensures.there in
    record {
      ordered =
          IsOrder-push items slots c.self.inside.order.items c.self.invariant.ordered c.self.invariant.even value tt c.push_reserved.new.self.items c.push.new.self.slots order c.push_reserved.ensures.items c.push.ensures.slots
          rises c.insert_slot.ensures.others there;
      even = omega (arith, ap length c.push.ensures.slots, ap length c.push_reserved.ensures.items, length_push items value, length_push slots (Some tt), c.self.invariant.even);
      unmarked = c.self.invariant.unmarked;
      fits = omega (arith, ap length c.push_reserved.ensures.items, length_push items value, c.requires, ap (λ l. l.spare) c.self.view_is, c.self.inside.items.ok);
    }

pub returns-clause-items : goal.returns-clause-items
returns-clause-items g c =
    rw (← c.self.view_is)
    ((λ i. items_of (c.push_reserved.ensures.items i) (c.push.ensures.slots i)) ∙ items_of-push c.self.inside.items.items c.self.inside.slots.slots c.args.value tt c.self.invariant.even)
