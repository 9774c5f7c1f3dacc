use Rattle.std.specs.List.{filter}
use Rattle.jm_lane.specs.Rows.{stays}
use Rattle.jm_lanes.proofs.Edited.{IsEdited}
use Rattle.jm_lanes.proofs.Holding.{IsLet}
use Rattle.jm_lanes.proofs.Number.{AreLeft}
use Rattle.jm_lanes.proofs.lanes.drop_expired.Given as goal

abbrev pub invariant-loop-lane : goal.invariant-loop-lane
invariant-loop-lane l = record {
  edited : IsEdited (filter (stays l.now)) l.initial.lanes l.lanes l.lane-index;
  let_go : IsLet l.initial.table l.table l.initial.lanes l.lanes;
  left : AreLeft l.initial.lanes l.lanes l.lane-index l.left;
}
