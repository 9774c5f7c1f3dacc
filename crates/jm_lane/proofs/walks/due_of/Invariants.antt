use Rattle.std.proofs.Common.{take}
use Rattle.std.specs.List.{All}
use Rattle.jm_lane.specs.Lanes.{IsDueBound}
use Rattle.jm_lane.proofs.walks.due_of.Given as goal

abbrev pub invariant-loop-i : goal.invariant-loop-i
invariant-loop-i l = All (IsDueBound l.due) (take l.i l.rows.items)
