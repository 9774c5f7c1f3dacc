use Rattle.std.proofs.Common.{◌≡◌, ◌+◌, ◌<◌, ◌∙◌, ◌++◌, arith, drop, length, rules, take}
use Rattle.jm_slots.specs.Marks.{marked_below}
use Rattle.jm_slots.proofs.Marked.{keep_goes, keep_stays}
use Rattle.jm_slots.proofs.marks.keep_marked.Goals as goal
use Rattle.jm_slots.proofs.marks.keep_marked.Goals.{then-marks-at, else-marks-at}

pub loop-at-preserved : goal.loop-at-preserved
loop-at-preserved g c =
    let marks = c.args.marks.now in
    let items = c.loop-at.items.items in
    let at = c.loop-at.at in
    let many : length items ≡ length marks = search rules in
    let within : at < length items = omega (arith, many, c.loop-at-test.true) in
    elim c.if-marks-at.branch [
      | then-marks-at w ↦ record {
        items =
            (λ t. take (w.kept-is t) (w.items-is t).items ++ marked_below c.args.gone (drop (at + 1) marks) (drop (at + 1) (w.items-is t).items))
            ∙ keep_stays c.args.gone at c.loop-at.kept marks items _ within c.loop-at-test.true c.loop-at.invariant.items w.swap.new.self.items w.swap.ensures.items c.loop-at.invariant.kept w.if-marks-at.true;
        number = search rules;
        capacity = search rules;
        kept = search rules;
      }
      | else-marks-at w ↦ record {
        items =
            (λ t. take (w.kept-is t) (w.items-is t).items ++ marked_below c.args.gone (drop (at + 1) marks) (drop (at + 1) (w.items-is t).items))
            ∙ keep_goes c.args.gone at c.loop-at.kept marks items _ within c.loop-at-test.true c.loop-at.invariant.items w.if-marks-at.false;
        number = search rules;
        capacity = search rules;
        kept = search rules;
      }
    ]
