use Rattle.jm_lane.specs.Cursors.{NoneBetween, has_lapsed, improves}
use Rattle.jm_lane.proofs.cursors.first_lapsed.Given as goal

abbrev pub invariant-loop-i : goal.invariant-loop-i
invariant-loop-i l = NoneBetween (improves l.best (has_lapsed l.now)) l.rows.items l.from l.i
