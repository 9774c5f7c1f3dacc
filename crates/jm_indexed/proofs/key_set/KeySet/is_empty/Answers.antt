use Rattle.std.proofs.Common.{◌∙◌, ap, sym, nat_eq}
use Rattle.jm_indexed.proofs.Slotted.{length-keys_of}
use Rattle.jm_indexed.proofs.key_set.KeySet.is_empty.Goals as goal

pub returns : goal.returns
returns g c = rw (← c.self.view_is) (c.is_empty.ensures ∙ ap (λ n. nat_eq n 0) (sym (length-keys_of c.self.inside.map.entries)))
