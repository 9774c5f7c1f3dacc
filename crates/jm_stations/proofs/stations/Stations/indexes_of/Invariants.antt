use Rattle.std.proofs.Common.{◌≡◌, Some, map, take}
use Rattle.jm_stations.specs.Stations.{index_in}
use Rattle.jm_stations.proofs.stations.Stations.indexes_of.Given as goal

abbrev pub invariant-loop-key : goal.invariant-loop-key
invariant-loop-key l = map Some l.indexes.items ≡ map (index_in l.self.keys) (take l.key-index l.keys)
