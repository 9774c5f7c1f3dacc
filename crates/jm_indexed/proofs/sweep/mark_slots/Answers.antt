use Rattle.std.proofs.Common.{◌+◌, ◌∙◌, ◌++◌, ap, arith, drop, length, rules}
use Rattle.std.specs.List.{zip}
use Rattle.jm_indexed.specs.Entries.{stays_in}
use Rattle.jm_indexed.specs.Order.{marks_of}
use Rattle.jm_indexed.proofs.Marked.{length_zip, mark_goes, mark_stays, marks_done}
use Rattle.jm_indexed.proofs.Slotted.{cell_next}
use Rattle.jm_indexed.proofs.sweep.mark_slots.Goals as goal
use Rattle.jm_indexed.proofs.sweep.mark_slots.Goals.{then-stays, else-stays}

pub loop-slot-preserved : goal.loop-slot-preserved
loop-slot-preserved g c =
    let keys = c.args.keys.now in
    let slots = c.args.values.now.slots in
    let at = c.loop-slot.slot in
    let cells = zip keys slots in
    let next = cell_next (g.C.EntryChoice.kept c.args.choice.now) keys slots at c.stays.result c.loop-slot-test.true c.requires.even c.stays.ensures in
    elim c.if-stays.branch [
      | then-stays w ↦ record {
        marks =
            (λ t. (w.marks-is t).items ++ marks_of (stays_in (g.C.EntryChoice.kept c.args.choice.now)) (w.stay-is t) (length keys) (drop (at + 1) cells))
            ∙ ap (λ xs. xs ++ marks_of (stays_in (g.C.EntryChoice.kept c.args.choice.now)) (c.loop-slot.stay + 1) (length keys) (drop (at + 1) cells)) w.push_reserved.ensures.items
            ∙ mark_stays (stays_in (g.C.EntryChoice.kept c.args.choice.now)) (length keys) c.loop-slot.marks.items _ c.loop-slot.stay at cells next.0 next.1 (next.2 ∙ w.if-stays.true) c.loop-slot.invariant.marks;
        number = search rules;
        capacity = search rules;
        stay = search rules;
      }
      | else-stays w ↦ record {
        marks =
            (λ t. (w.marks-is t).items ++ marks_of (stays_in (g.C.EntryChoice.kept c.args.choice.now)) (w.stay-is t) (length keys) (drop (at + 1) cells))
            ∙ ap (λ xs. xs ++ marks_of (stays_in (g.C.EntryChoice.kept c.args.choice.now)) c.loop-slot.stay (length keys) (drop (at + 1) cells)) w.push_reserved-else-stays.ensures.items
            ∙ mark_goes (stays_in (g.C.EntryChoice.kept c.args.choice.now)) (length keys) c.loop-slot.marks.items _ c.loop-slot.stay at cells next.0 next.1 (next.2 ∙ w.if-stays.false) c.loop-slot.invariant.marks;
        number = search rules;
        capacity = search rules;
        stay = search rules;
      }
    ]

pub returns-clause-marks : goal.returns-clause-marks
returns-clause-marks g c =
    let keys = c.args.keys.now in
    let slots = c.args.values.now.slots in
    marks_done (stays_in (g.C.EntryChoice.kept c.args.choice.now)) (length keys) c.loop-slot.marks.items _ c.loop-slot.stay c.loop-slot.slot (zip keys slots)
    (omega (arith, c.loop-slot-test.false, length_zip keys slots c.requires.even)) c.loop-slot.invariant.marks
