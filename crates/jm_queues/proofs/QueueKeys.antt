-- The keys of queues, and the rows that stand under each.
use Rattle.std.proofs.Common.{◌≡◌, ◌<◌, ◌++◌, ℕ, List, [], ◌∷◌, length, get_or, refl, subst, sym, ◌∙◌}
use Rattle.std.specs.List.{All, IsDistinct}
use Rattle.std.proofs.lemmas.List.Elements.{All-push}
use Rattle.jm_dest.specs.declared.key.Key.{Key}
use Rattle.jm_dest.specs.declared.key.Key.TheVariants.{Queue, Own, SharedOwn, Durable}
use Rattle.jm_dest.specs.Keys.{key_eq}
use Rattle.jm_machine.specs.Machine.{State}
use Rattle.jm_machine.specs.Under.{placed_under}
use Rattle.jm_stations.specs.Backlogs.{Backlog}
use Rattle.jm_queues.specs.Queues.{IsOfQueue, rows_at}
use Rattle.jm_queues.proofs.Indexed.{index_here}
use Rattle.jm_queues.proofs.QueueRows.{rows_found}

-- the same keys
pub keys_same : (old new : List Key) → new ≡ old → All IsOfQueue old → All IsOfQueue new
keys_same old new e h = subst (λ (ks : List Key). All IsOfQueue ks) (sym e) h

-- the key of a queue more
pub keys_push : (old new : List Key) (name : List ℕ) → new ≡ old ++ Queue name ∷ [] → All IsOfQueue old → All IsOfQueue new
keys_push old new name e h = keys_same (old ++ Queue name ∷ []) new e (All-push IsOfQueue old (Queue name) h tt)

-- the rows under the key with an index are those of its queue
rows_named : (state : State) (keys : List Key) (list : List Backlog) (i : ℕ) (key c : Key) (d : Backlog) → state.queues ≡ rows_at keys list → IsDistinct key_eq keys → IsOfQueue key → get_or keys i c ≡ key → i < length keys → i < length list →
    (get_or list i d).rows ≡ placed_under state key
rows_named state keys list i (Queue name) c d q once of at l m =
    sym (rows_found keys list name i d (index_here keys i (Queue name) c once at l) m) ∙ sym (λ j. q j name)
rows_named state keys list i (Own s n) c d q once of at l m = absurd of
rows_named state keys list i (SharedOwn client name) c d q once of at l m = absurd of
rows_named state keys list i (Durable client name) c d q once of at l m = absurd of

pub rows_there : (state : State) (keys : List Key) (list : List Backlog) (i : ℕ) (c : Key) (d : Backlog) → state.queues ≡ rows_at keys list → IsDistinct key_eq keys → All IsOfQueue keys → i < length keys → i < length list →
    (get_or list i d).rows ≡ placed_under state (get_or keys i c)
rows_there state keys list i c d q once of l m = rows_named state keys list i (get_or keys i c) c d q once (of i c l) refl l m
