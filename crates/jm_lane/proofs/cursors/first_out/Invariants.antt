use Rattle.jm_machine.specs.Machine.{are_meant}
use Rattle.jm_lane.specs.Rows.{is_out}
use Rattle.jm_lane.specs.Cursors.{NoneBetween, improves}
use Rattle.jm_lane.proofs.cursors.first_out.Given as goal

abbrev pub invariant-loop-i : goal.invariant-loop-i
invariant-loop-i l = NoneBetween (improves l.best (is_out (are_meant l.which))) l.rows.items l.from l.i
