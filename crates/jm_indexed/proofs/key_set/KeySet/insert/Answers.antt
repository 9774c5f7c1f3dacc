use Rattle.std.proofs.Common.{◌∙◌, ◌∷◌, [], ap}
use Rattle.std.specs.Map.{keys_of}
use Rattle.std.proofs.lemmas.List.{map-append}
use Rattle.jm_indexed.specs.Order.{index_in}
use Rattle.jm_indexed.proofs.Entries.{entries_none}
use Rattle.jm_indexed.proofs.key_set.KeySet.insert.Goals as goal

pub insert-requires-clause-absent : goal.insert-requires-clause-absent
insert-requires-clause-absent g c =
    entries_none g.met.K.Eq.laws c.args.key c.self.inside.map.entries (ap (λ s. index_in g.K.PartialEq.eq s.keys c.args.key) c.self.view_is ∙ c.requires.absent)

pub returns-clause-keys : goal.returns-clause-keys
returns-clause-keys g c = rw (← c.self.view_is) (ap keys_of c.insert.ensures.entries ∙ map-append (λ e. e.0) c.self.inside.map.entries ((c.args.key, tt) ∷ []))
