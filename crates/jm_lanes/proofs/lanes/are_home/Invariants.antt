use Rattle.std.proofs.Common.{◌≡◌, take, true}
use Rattle.jm_lane.specs.Rows.{are_home}
use Rattle.jm_lanes.specs.Lanes.{all_rows}
use Rattle.jm_lanes.proofs.lanes.are_home.Given as goal

abbrev pub invariant-loop-lane : goal.invariant-loop-lane
invariant-loop-lane l = are_home (all_rows (take l.lane-index l.lanes)) ≡ true
