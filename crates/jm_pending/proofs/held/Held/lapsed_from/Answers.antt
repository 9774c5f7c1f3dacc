use Rattle.std.proofs.Common.{◌<◌, refl}
use Rattle.jm_dest.specs.Numbers.{long_end}
use Rattle.jm_lane.specs.declared.row.Row.{Row}
use Rattle.jm_lane.specs.Cursors.{lapsed_from}
use Rattle.jm_lanes.specs.Lanes.{all_rows, rows_of}
use Rattle.jm_lanes.proofs.Places.{all_sorted, find_has}
use Rattle.jm_pending.proofs.held.Held.lapsed_from.Goals as goal

pub returns-clause-place : goal.returns-clause-place
returns-clause-place c =
    rw c.lapsed_from.ensures (find_has (λ (r : Row). r.place < long_end) (lapsed_from c.args.place c.args.now) (rows_of c.self.inside.lanes) (all_sorted (λ (r : Row). r.place < long_end) (all_rows c.self.inside.lanes) c.self.invariant.0.bounded))

pub returns-then-is_empty-clause-row : goal.returns-then-is_empty-clause-row
returns-then-is_empty-clause-row c =
    rw (c.is_empty.ensures c.if-is_empty.true) refl
