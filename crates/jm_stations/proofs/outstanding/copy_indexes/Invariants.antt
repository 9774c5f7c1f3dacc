use Rattle.std.proofs.Common.{◌≡◌, ◌≤◌, take}
use Rattle.std.specs.Vec.{vec_capacity}
use Rattle.jm_stations.proofs.outstanding.copy_indexes.Given as goal

abbrev pub invariant-loop-index : goal.invariant-loop-index
invariant-loop-index l = record {
  items : l.copy.items ≡ take l.index-index l.indexes;
  room : l.number ≤ vec_capacity l.copy;
}
