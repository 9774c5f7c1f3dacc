use Rattle.std.proofs.Common.{◌≡◌, ◌∙◌, [], ◌∷◌, true, ap, sym, is_some}
use Rattle.std.proofs.lemmas.List.Elements.{All-nil, All-cons}
use Rattle.jm_dest.specs.declared.key.Key.{Key}
use Rattle.jm_stations.specs.Stations.{index_in}
use Rattle.tests_stations.proofs.keys.stand.Goals as goal

-- both keys are there
pub indexes_of-requires : goal.indexes_of-requires
indexes_of-requires c =
    let one : is_some (index_in c.args.stations.now.keys c.in_ok-key.field-0) ≡ true = ap is_some (sym c.index_of.ensures.index) ∙ c.if-is_none.ensures in
    let other : is_some (index_in c.args.stations.now.keys c.in_ok-key-2.field-0) ≡ true = ap is_some (sym c.index_of-2.ensures.index) ∙ c.if-is_none-2.ensures in
    record { there = All-cons (λ (k : Key). is_some (index_in c.args.stations.now.keys k) ≡ true) c.in_ok-key.field-0 (c.in_ok-key-2.field-0 ∷ []) one (All-cons (λ (k : Key). is_some (index_in c.args.stations.now.keys k) ≡ true) c.in_ok-key-2.field-0 [] other (All-nil _)) }
