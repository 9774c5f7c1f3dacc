use Rattle.std.proofs.Common.{map}
use Rattle.jm_lane.specs.Rows.{back, is_among}
use Rattle.jm_lanes.proofs.Edited.{IsEdited}
use Rattle.jm_lanes.proofs.lanes.give_back.Given as goal

abbrev pub invariant-loop-lane : goal.invariant-loop-lane
invariant-loop-lane l = IsEdited (map (back (is_among l.outs))) l.initial.lanes l.lanes l.lane-index
