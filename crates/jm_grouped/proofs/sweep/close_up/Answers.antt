use Rattle.std.proofs.Common.{ap, arith, length}
use Rattle.jm_grouped.proofs.Closed.{IsClosed, are_closed, marks-length}
use Rattle.jm_grouped.proofs.sweep.close_up.Given.{Over}
use Rattle.jm_grouped.proofs.sweep.close_up.Goals as goal

pub keep_places-requires : goal.keep_places-requires
keep_places-requires g c =
    let slots = c.args.slots.now.slots in
    λ k d l. omega (arith, ap length c.deref.ensures.value, ap length c.mark_slots.ensures.marks, marks-length 0 (length slots) slots, c.requires.even, c.requires.ordered.rises.within k d l)

pub keep_marked-requires : goal.keep_marked-requires
keep_marked-requires g c =
    let slots = c.args.slots.now.slots in
    omega (arith, ap length c.deref-2.ensures.value, ap length c.mark_slots.ensures.marks, marks-length 0 (length slots) slots, c.requires.even, c.args.items.now.ok)

-- what is left
left : (g : Over) (c : goal.After-clear g) → IsClosed c.args.items.now.items c.args.slots.now.slots c.args.order.now.items c.requires.ordered c.requires.even c.keep_marked.new.items.items c.sweep.new.self.slots c.keep_places.new.order.items
left g c =
    are_closed c.args.items.now.items c.args.slots.now.slots c.args.order.now.items c.requires.ordered c.requires.even c.mark_slots.new.marks.items c.deref.result.now c.deref-2.result.now c.end-gone.result
    c.mark_slots.ensures.marks c.deref.ensures.value c.deref-2.ensures.value c.end-gone.ensures.end
    c.keep_marked.new.items.items c.sweep.new.self.slots c.keep_places.new.order.items c.keep_places.ensures.items c.keep_marked.ensures.items c.sweep.ensures.slots

pub returns-clause-grouped : goal.returns-clause-grouped
returns-clause-grouped g c =
    let closed = left g c in
    let fewer = closed.fewer in
    record {
      ordered = closed.ordered;
      even = closed.as_many;
      unmarked = c.clear.ensures.items;
      fits = omega (arith, fewer, c.clear.ensures.capacity, c.mark_slots.ensures.capacity, c.requires.fits);
    }

pub returns-clause-items : goal.returns-clause-items
returns-clause-items g c = let closed = left g c in closed.items_are
