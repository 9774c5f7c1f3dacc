use Rattle.std.proofs.Common.{◌∙◌, ap, sym, nat_eq}
use Rattle.jm_indexed.proofs.Slotted.{length-entries}
use Rattle.jm_indexed.proofs.key_map.KeyMap.is_empty.Goals as goal

pub returns : goal.returns
returns g c = rw (← c.self.view_is) (c.is_empty.ensures ∙ ap (λ n. nat_eq n 0) (sym (length-entries c.self.inside.keys.items c.self.inside.values.slots c.self.invariant.even)))
