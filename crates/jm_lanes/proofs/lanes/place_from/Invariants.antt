use Rattle.std.proofs.Common.{take}
use Rattle.jm_lane.specs.Lanes.{IsPlaceFrom}
use Rattle.jm_lanes.specs.Lanes.{all_rows}
use Rattle.jm_lanes.proofs.lanes.place_from.Given as goal

abbrev pub invariant-loop-lane : goal.invariant-loop-lane
invariant-loop-lane l = IsPlaceFrom l.place l.least (all_rows (take l.lane-index l.lanes))
