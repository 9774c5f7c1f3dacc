use Rattle.std.proofs.Common.{◌≤◌}
use Rattle.std.specs.Vec.{vec_capacity}
use Rattle.jm_lanes.specs.Lanes.{AreEmptyLanes}
use Rattle.jm_lanes.proofs.lanes.empty_lanes.Given as goal

abbrev pub invariant-loop-index : goal.invariant-loop-index
invariant-loop-index l = record {
  empty : AreEmptyLanes l.lanes.items l.index;
  room : 30 ≤ vec_capacity l.lanes;
}
