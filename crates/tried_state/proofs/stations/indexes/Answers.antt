use Rattle.std.proofs.Common.{◌≡◌, ◌∙◌, [], ◌∷◌, true, ap, sym, is_some}
use Rattle.std.proofs.lemmas.List.Elements.{All-nil, All-cons}
use Rattle.jm_dest.specs.declared.key.Key.{Key}
use Rattle.jm_stations.specs.Stations.{index_in}
use Rattle.tried_state.proofs.stations.indexes.Goals as goal

-- the key is there
pub indexes_of-requires : goal.indexes_of-requires
indexes_of-requires c =
    let one : is_some (index_in c.args.stations.now.keys c.args.key) ≡ true = ap is_some (sym c.index_of.ensures.index) ∙ c.if-is_none.ensures in
    record { there = All-cons (λ (k : Key). is_some (index_in c.args.stations.now.keys k) ≡ true) c.args.key [] one (All-nil _) }
