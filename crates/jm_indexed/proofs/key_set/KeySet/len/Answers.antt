use Rattle.std.proofs.Common.{◌∙◌, sym}
use Rattle.jm_indexed.proofs.Slotted.{length-keys_of}
use Rattle.jm_indexed.proofs.key_set.KeySet.len.Goals as goal

pub returns-clause-len : goal.returns-clause-len
returns-clause-len g c = rw (← c.self.view_is) (c.len.ensures.len ∙ sym (length-keys_of c.self.inside.map.entries))
