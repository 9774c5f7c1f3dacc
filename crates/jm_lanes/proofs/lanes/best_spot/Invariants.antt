use Rattle.std.proofs.Common.{take}
use Rattle.std.specs.Option.{IfSome}
use Rattle.jm_lane.specs.Lanes.{IsSoonestOf}
use Rattle.jm_lanes.specs.Lanes.{all_rows}
use Rattle.jm_lane.specs.Chosen.{is_choice, row_of}
use Rattle.jm_lanes.specs.Lanes.{IsSpot}
use Rattle.jm_selector.specs.Selectors.{matches}
use Rattle.jm_lanes.proofs.lanes.best_spot.Given as goal

abbrev pub invariant-loop-i : goal.invariant-loop-i
invariant-loop-i l = record {
  spot : IfSome l.best (IsSpot l.lanes);
  soonest : IsSoonestOf (is_choice (matches l.selector) l.table l.now) (all_rows (take l.i l.lanes)) (row_of l.best);
}
