use Rattle.std.proofs.Common.{ap}
use Rattle.std.specs.Map.{keys_of}
use Rattle.jm_indexed.proofs.key_set.KeySet.reserve.Goals as goal

pub returns-clause-keys : goal.returns-clause-keys
returns-clause-keys g c = rw (← c.self.view_is) (ap keys_of c.reserve.ensures.entries)
