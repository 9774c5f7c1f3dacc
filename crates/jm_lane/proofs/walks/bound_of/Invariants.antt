use Rattle.std.proofs.Common.{take}
use Rattle.std.specs.List.{All}
use Rattle.jm_lane.specs.Lanes.{IsBound}
use Rattle.jm_lane.proofs.walks.bound_of.Given as goal

abbrev pub invariant-loop-i : goal.invariant-loop-i
invariant-loop-i l = All (IsBound l.least) (take l.i l.rows.items)
