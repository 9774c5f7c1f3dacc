use Rattle.std.proofs.Common.{◌≡◌, take, false}
use Rattle.std.specs.List.{All}
use Rattle.jm_lane.specs.Rows.{is_waiting}
use Rattle.jm_lane.proofs.walks.first_waiting.Given as goal

abbrev pub invariant-loop-i : goal.invariant-loop-i
invariant-loop-i l = All (λ r. is_waiting r ≡ false) (take l.i l.rows.items)
