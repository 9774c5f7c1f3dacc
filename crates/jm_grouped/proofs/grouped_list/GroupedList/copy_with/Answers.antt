use Rattle.std.proofs.Common.{◌≡◌, ◌∙◌, Some, ap, arith, length, sym}
use Rattle.std.proofs.lemmas.List.{length-replicate}
use Rattle.jm_grouped.specs.Grouped.{items_of}
use Rattle.jm_grouped.specs.Order.{indexes_in}
use Rattle.jm_grouped.proofs.Closed.{IsOrder-copied, items_of-replicate}
use Rattle.jm_grouped.proofs.grouped_list.GroupedList.copy_with.Goals as goal

pub invariant_of-result : goal.invariant_of-result
invariant_of-result g c =
    let items = c.self.inside.items.items in
    let slots = c.self.inside.slots.slots in
    let items_are : c.args.items.items ≡ items_of items slots = c.requires ∙ ap (λ l. l.items) (sym c.self.view_is) in
    let order_is = c.in_ok-order.ensures ∙ ap (indexes_in slots) c.as_slice.ensures.value in
    let even : length c.in_ok-slots.slots.slots ≡ length c.args.items.items = omega (arith, ap length c.in_ok-slots.ensures, length-replicate c.len.result (Some (tt {0})), c.len.ensures, c.args.items.ok) in
    record {
      ordered = IsOrder-copied items slots c.self.inside.order.items c.self.invariant.ordered c.self.invariant.even c.args.items.items c.in_ok-slots.slots.slots c.in_ok-order.order.items items_are even order_is;
      even = even;
      unmarked = c.in_ok-marks.ensures.items;
      fits = omega (arith, c.in_ok-marks.ensures.capacity, c.args.items.ok);
    }

pub returns : goal.returns
returns g c =
    let many : c.len.result ≡ length c.args.items.items = omega (arith, c.len.ensures, c.args.items.ok) in
    ap (items_of c.args.items.items) c.in_ok-slots.ensures ∙ items_of-replicate c.args.items.items tt c.len.result many ∙ c.requires
