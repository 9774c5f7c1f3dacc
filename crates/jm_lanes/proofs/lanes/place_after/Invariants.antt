use Rattle.std.proofs.Common.{◌-◌, ◌^◌, ◌<◌, ◌≤◌, length}
use Rattle.std.specs.List.{filter}
use Rattle.jm_lane.specs.Lanes.{is_below}
use Rattle.jm_lanes.specs.Lanes.{all_rows}
use Rattle.jm_lanes.proofs.lanes.place_after.Given as goal

abbrev pub invariant-loop-high : goal.invariant-loop-high
invariant-loop-high l = record {
  apart : l.low < l.high;
  top : l.high ≤ 2 ^ 63;
  few : length (filter (is_below l.low) (all_rows l.lanes)) ≤ l.count;
  more : l.count < length (filter (is_below l.high) (all_rows l.lanes));
}

abbrev pub decreases-loop-high : goal.decreases-loop-high
decreases-loop-high l = l.high - l.low
