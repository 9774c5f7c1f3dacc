use Rattle.std.proofs.Common.{take}
use Rattle.jm_lanes.specs.Lanes.{all_rows}
use Rattle.jm_lane.specs.Cursors.{lapsed_from}
use Rattle.jm_lanes.specs.Cursors.{IsLowestOf}
use Rattle.jm_lanes.proofs.cursors.lapsed_from.Given as goal

abbrev pub invariant-loop-lane : goal.invariant-loop-lane
invariant-loop-lane l = IsLowestOf (lapsed_from l.place l.now) (all_rows (take l.lane-index l.lanes)) l.best
