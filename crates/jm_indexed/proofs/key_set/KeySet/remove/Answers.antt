use Rattle.std.proofs.Common.{◌∙◌, ap, arith, length}
use Rattle.std.specs.Map.{keys_of}
use Rattle.jm_indexed.proofs.Entries.{keys_of-remove}
use Rattle.jm_indexed.proofs.Slotted.{length-keys_of}
use Rattle.jm_indexed.proofs.key_set.KeySet.remove.Goals as goal

pub remove_at-requires : goal.remove_at-requires
remove_at-requires g c = omega (arith, c.requires, ap (λ s. length s.keys) c.self.view_is, length-keys_of c.self.inside.map.entries)

pub returns-clause-keys : goal.returns-clause-keys
returns-clause-keys g c = rw (← c.self.view_is) (ap keys_of c.remove_at.ensures.entries ∙ keys_of-remove c.self.inside.map.entries c.args.index)
