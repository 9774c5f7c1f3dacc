use Rattle.std.proofs.Common.{◌≡◌, ◌≤◌, ◌-◌, length}
use Rattle.std.specs.List.{filter}
use Rattle.jm_dest.specs.Numbers.{long_end}
use Rattle.jm_lane.specs.Lanes.{is_below}
use Rattle.jm_pending.specs.Placed.{all_placed}
use Rattle.jm_stations.proofs.copies.placed_rows.Given as goal

abbrev pub invariant-loop-rows : goal.invariant-loop-rows
invariant-loop-rows l = record {
  bound : l.place ≤ long_end;
  rows : l.rows.items ≡ all_placed l.table (filter (is_below l.place) l.held.rows);
}

abbrev pub decreases-loop-rows : goal.decreases-loop-rows
decreases-loop-rows l = length l.held.rows - length (filter (is_below l.place) l.held.rows)
