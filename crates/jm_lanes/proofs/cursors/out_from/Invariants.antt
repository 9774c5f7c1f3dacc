use Rattle.std.proofs.Common.{take}
use Rattle.jm_machine.specs.Machine.{are_meant}
use Rattle.jm_lanes.specs.Lanes.{all_rows}
use Rattle.jm_lane.specs.Cursors.{out_from}
use Rattle.jm_lanes.specs.Cursors.{IsLowestOf}
use Rattle.jm_lanes.proofs.cursors.out_from.Given as goal

abbrev pub invariant-loop-lane : goal.invariant-loop-lane
invariant-loop-lane l = IsLowestOf (out_from l.place (are_meant l.which)) (all_rows (take l.lane-index l.lanes)) l.best
