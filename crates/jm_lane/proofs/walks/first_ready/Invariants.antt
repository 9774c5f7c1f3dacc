use Rattle.std.proofs.Common.{◌≡◌, take, false}
use Rattle.std.specs.List.{All}
use Rattle.jm_lane.specs.Chosen.{is_ready_before, row_of}
use Rattle.jm_lane.proofs.walks.first_ready.Given as goal

abbrev pub invariant-loop-i : goal.invariant-loop-i
invariant-loop-i l = All (λ r. is_ready_before (row_of l.best) l.now r ≡ false) (take l.i l.rows.items)
