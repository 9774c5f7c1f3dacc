use Rattle.std.proofs.Common.{ap, arith, length}
use Rattle.jm_indexed.proofs.Slotted.{length-keys_of}
use Rattle.jm_indexed.proofs.key_set.KeySet.key_at.Goals as goal

pub key_at-requires : goal.key_at-requires
key_at-requires g c = omega (arith, c.requires, ap (λ s. length s.keys) c.self.view_is, length-keys_of c.self.inside.map.entries)
