use Rattle.std.specs.List.{filter}
use Rattle.jm_lane.specs.Rows.{keeps}
use Rattle.jm_lanes.proofs.Edited.{IsEdited}
use Rattle.jm_lanes.proofs.Holding.{IsLet}
use Rattle.jm_lanes.proofs.Number.{AreLeft}
use Rattle.jm_lanes.proofs.lanes.settle.Given as goal

abbrev pub invariant-loop-lane : goal.invariant-loop-lane
invariant-loop-lane l = record {
  edited : IsEdited (filter (keeps l.outs)) l.initial.lanes l.lanes l.lane-index;
  let_go : IsLet l.initial.table l.table l.initial.lanes l.lanes;
  left : AreLeft l.initial.lanes l.lanes l.lane-index l.left;
}
