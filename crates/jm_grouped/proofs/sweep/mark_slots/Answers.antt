use Rattle.std.proofs.Common.{◌+◌, ◌∙◌, ◌++◌, ◌∷◌, [], true, false, ap, arith, drop, length, rules, sym}
use Rattle.jm_grouped.specs.Order.{marks_of}
use Rattle.jm_grouped.proofs.Closed.{mark_goes, mark_stays, marks_done}
use Rattle.jm_grouped.proofs.Taken.{got}
use Rattle.jm_grouped.proofs.sweep.mark_slots.Goals as goal
use Rattle.jm_grouped.proofs.sweep.mark_slots.Goals.{then-is_some, else-is_some}

pub loop-slot-preserved : goal.loop-slot-preserved
loop-slot-preserved c =
    let slots = c.args.slots.now.slots in
    let at = c.loop-slot.slot in
    elim c.if-is_some.branch [
      | then-is_some w ↦ record {
        marks =
            (λ t. (w.marks-is t).items ++ marks_of (w.taken-is t) (length slots) (drop (at + 1) slots))
            ∙ ap (λ xs. xs ++ marks_of (c.loop-slot.taken + 1) (length slots) (drop (at + 1) slots)) w.push_reserved.ensures.items
            ∙ mark_stays (length slots) slots c.loop-slot.marks.items _ c.loop-slot.taken at c.loop-slot.invariant.marks
            (got slots at c.get.result true c.get.ensures (sym c.is_some.ensures ∙ w.if-is_some.true));
        number = search rules;
        capacity = search rules;
        taken = search rules;
      }
      | else-is_some w ↦ record {
        marks =
            (λ t. (w.marks-is t).items ++ marks_of (w.taken-is t) (length slots) (drop (at + 1) slots))
            ∙ ap (λ xs. xs ++ marks_of c.loop-slot.taken (length slots) (drop (at + 1) slots)) w.push_reserved-else-is_some.ensures.items
            ∙ ap (λ n. (c.loop-slot.marks.items ++ n ∷ []) ++ marks_of c.loop-slot.taken (length slots) (drop (at + 1) slots)) c.end-gone.ensures.end
            ∙ mark_goes (length slots) slots c.loop-slot.marks.items _ c.loop-slot.taken at c.loop-slot.invariant.marks (omega (arith, c.loop-slot-test.true, c.end-gone.ensures.end))
            (got slots at c.get.result false c.get.ensures (sym c.is_some.ensures ∙ w.if-is_some.false));
        number = search rules;
        capacity = search rules;
        taken = search rules;
      }
    ]

pub returns-clause-marks : goal.returns-clause-marks
returns-clause-marks c =
    let slots = c.args.slots.now.slots in
    marks_done (length slots) slots c.loop-slot.marks.items _ c.loop-slot.taken c.loop-slot.slot c.loop-slot.invariant.marks (omega (arith, c.loop-slot-test.false, c.end-gone.ensures.end))
