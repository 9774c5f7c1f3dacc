use Rattle.std.proofs.Common.{◌<◌, IfSome, subst, sym}
use Rattle.jm_indexed.proofs.Slotted.{length-keys_of}
use Rattle.jm_indexed.proofs.key_set.KeySet.index_of.Goals as goal

pub returns-clause-within : goal.returns-clause-within
returns-clause-within g c = rw (← c.self.view_is) (subst (λ n. IfSome c.index_of.result (λ i. i < n)) (sym (length-keys_of c.self.inside.map.entries)) c.index_of.ensures.within)
