use Rattle.std.proofs.Common.{◌≡◌, take}
use Rattle.jm_core.specs.Reading.{durable_at}
use Rattle.jm_core.proofs.reading.durable_keys.Given as goal

abbrev pub invariant-loop-index : goal.invariant-loop-index
invariant-loop-index l = l.keys.items ≡ durable_at l.stations.keys (take l.index-index l.indexes)
