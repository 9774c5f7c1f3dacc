use Rattle.std.proofs.Common.{◌≡◌, ◌∙◌, ap, ℕ, Some, map, subst, sym, length}
use Rattle.std.specs.List.{All}
use Rattle.std.proofs.lemmas.List.{length-map, take_all}
use Rattle.jm_stations.specs.Kept.{shown}
use Rattle.jm_stations.specs.Stations.{index_in}
use Rattle.jm_stations.proofs.Indexes.{indexes_within, distinct_indexes, IsWithin}
use Rattle.jm_stations.proofs.stations.Stations.indexes_of.Goals as goal

pub returns-clause-within : goal.returns-clause-within
returns-clause-within c =
    let all : map Some c.loop-key.indexes.items ≡ map (index_in c.args.self.now.keys) c.args.keys.now =
    c.loop-key.invariant ∙ ap (map (index_in c.args.self.now.keys)) (take_all c.loop-key.key-index c.args.keys.now c.loop-key-test.false) in
    let same : length c.args.self.now.keys ≡ length c.args.self.now.list = rw (← c.self.view_is) (c.self.invariant.3 ∙ sym (length-map c.self.inside.lists.items (shown c.self.inside.table))) in
    subst (λ (n : ℕ). All (IsWithin n) c.loop-key.indexes.items) same (indexes_within c.args.self.now.keys c.args.keys.now c.loop-key.indexes.items all)

pub returns-clause-once : goal.returns-clause-once
returns-clause-once c = λ distinct.
    let all : map Some c.loop-key.indexes.items ≡ map (index_in c.args.self.now.keys) c.args.keys.now =
    c.loop-key.invariant ∙ ap (map (index_in c.args.self.now.keys)) (take_all c.loop-key.key-index c.args.keys.now c.loop-key-test.false) in
    distinct_indexes c.args.self.now.keys c.args.keys.now c.loop-key.indexes.items all distinct
