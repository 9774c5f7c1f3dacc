use Rattle.std.proofs.Common.{◌<◌, refl}
use Rattle.jm_dest.specs.Numbers.{long_end}
use Rattle.jm_machine.specs.Machine.{are_meant}
use Rattle.jm_lane.specs.declared.row.Row.{Row}
use Rattle.jm_lane.specs.Cursors.{out_from}
use Rattle.jm_lanes.specs.Lanes.{all_rows, rows_of}
use Rattle.jm_lanes.proofs.Places.{all_sorted, find_has}
use Rattle.jm_pending.proofs.Receiving.{none_out}
use Rattle.jm_pending.proofs.held.Held.out_from.Goals as goal

pub returns-then-include-clause-place : goal.returns-then-include-clause-place
returns-then-include-clause-place c =
    rw c.out_from.ensures (find_has (λ (r : Row). r.place < long_end) (out_from c.args.place (are_meant c.args.which.now)) (rows_of c.self.inside.lanes) (all_sorted (λ (r : Row). r.place < long_end) (all_rows c.self.inside.lanes) c.self.invariant.0.bounded))

pub returns-else-include-clause-row : goal.returns-else-include-clause-row
returns-else-include-clause-row c =
    rw (← c.self.view_is) (none_out (are_meant c.args.which.now) c.args.place c.self.inside.receivers (rows_of c.self.inside.lanes) (c.include.ensures c.if-include.false) c.self.invariant.1)

pub returns-then-is_empty-clause-row : goal.returns-then-is_empty-clause-row
returns-then-is_empty-clause-row c =
    rw (c.is_empty.ensures c.if-is_empty.true) refl
