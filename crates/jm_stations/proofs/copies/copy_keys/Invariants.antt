use Rattle.std.proofs.Common.{◌≡◌, take}
use Rattle.jm_stations.proofs.copies.copy_keys.Given as goal

abbrev pub invariant-loop-index : goal.invariant-loop-index
invariant-loop-index l = l.copies.items ≡ take l.index l.keys.keys
