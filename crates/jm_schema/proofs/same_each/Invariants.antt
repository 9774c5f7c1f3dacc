use Rattle.std.proofs.Common.{◌≡◌, take, length}
use Rattle.jm_schema.proofs.same_each.Given as goal

abbrev pub invariant-loop-i : goal.invariant-loop-i
invariant-loop-i g l = take l.i l.a ≡ take l.i l.b
