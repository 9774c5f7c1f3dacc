use Rattle.std.proofs.Common.{◌∙◌, ap, sym}
use Rattle.std.specs.Map.{keys_of}
use Rattle.jm_indexed.proofs.Lists.{filter-map}
use Rattle.jm_indexed.proofs.key_set.KeySet.retain.Goals as goal

pub returns-clause-keys : goal.returns-clause-keys
returns-clause-keys g c = rw (← c.self.view_is) (ap keys_of c.retain.ensures.entries ∙ sym (filter-map (λ e. e.0) (g.C.Choice.kept c.args.choice.now) c.self.inside.map.entries))
