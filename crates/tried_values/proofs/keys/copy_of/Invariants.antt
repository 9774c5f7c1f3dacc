use Rattle.std.proofs.Common.{◌≡◌, take}
use Rattle.tried_values.proofs.keys.copy_of.Given as goal

abbrev pub invariant-loop-index : goal.invariant-loop-index
invariant-loop-index l = l.keys.items ≡ take l.index l.set.keys
