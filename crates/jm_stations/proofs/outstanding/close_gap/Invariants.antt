use Rattle.std.proofs.Common.{◌≡◌, ◌++◌, map, take, drop}
use Rattle.jm_stations.specs.Outstanding.{moved_up}
use Rattle.jm_stations.proofs.outstanding.close_gap.Given as goal

abbrev pub invariant-loop-other : goal.invariant-loop-other
invariant-loop-other l = l.indexes ≡ map (moved_up l.index) (take l.other-index l.initial.indexes) ++ drop l.other-index l.initial.indexes
