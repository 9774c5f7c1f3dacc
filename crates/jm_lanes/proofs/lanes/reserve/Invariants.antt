use Rattle.std.proofs.Common.{◌≤◌, take}
use Rattle.std.specs.List.{All}
use Rattle.jm_lane.specs.Lanes.{Lane}
use Rattle.jm_lanes.proofs.Edited.{IsEdited}
use Rattle.jm_lanes.proofs.lanes.reserve.Given as goal

abbrev pub invariant-loop-lane : goal.invariant-loop-lane
invariant-loop-lane l = record {
  edited : IsEdited (λ rows. rows) l.initial.lanes l.lanes l.lane-index;
  room : All (λ (x : Lane). l.additional ≤ x.spare) (take l.lane-index l.lanes);
}
