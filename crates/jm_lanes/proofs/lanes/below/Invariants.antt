use Rattle.std.proofs.Common.{◌≡◌, take, length}
use Rattle.std.specs.List.{filter}
use Rattle.jm_lane.specs.Lanes.{is_below}
use Rattle.jm_lanes.specs.Lanes.{all_rows}
use Rattle.jm_lanes.proofs.lanes.below.Given as goal

abbrev pub invariant-loop-lane : goal.invariant-loop-lane
invariant-loop-lane l = l.total ≡ length (filter (is_below l.place) (all_rows (take l.lane-index l.lanes)))
