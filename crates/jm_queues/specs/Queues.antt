-- What queues hold, by their names.
use Rattle.std.specs.Prelude.{◌≡◌, ◌≤◌, ◌<◌, ◌+◌, ℕ, List, [], ◌∷◌, All, Some, None, length, slice_index_or, if◌then◌else◌, nat_eq, ◌++◌}
use Rattle.jm_dest.specs.declared.destination.Destination.{Destination}
use Rattle.jm_dest.specs.declared.destination.Destination.TheVariants.{Queue, Topic}
use Rattle.jm_dest.specs.declared.key.Key.{Key}
use Rattle.jm_dest.specs.declared.key.Key.TheVariants.{Queue as OfQueue, Own, SharedOwn, Durable}
use Rattle.jm_dest.specs.Keys.{key_eq}
use Rattle.jm_header.specs.declared.content.Content.{Content}
use Rattle.jm_machine.specs.declared.state.PlacedRow.{PlacedRow}
use Rattle.jm_machine.specs.Machine.{queued}
use Rattle.jm_stations.specs.Backlogs.{Backlog, holders_at}
use Rattle.jm_stations.specs.Stations.{Stations, index_in}
use Rattle.std.specs.List.{IsDistinct}
use Rattle.jm_machine.specs.declared.state.Row.{Row}

-- the rows under the key of the queue of that name; none where nothing stands under it
abbrev pub rows_at : List Key → List Backlog → List ℕ → List PlacedRow
rows_at [] list name = []
rows_at (k ∷ keys) [] name = []
rows_at (k ∷ keys) (b ∷ list) name = if key_eq k (OfQueue name) then b.rows else rows_at keys list name

-- what the queues hold
abbrev pub rows_in : Stations → List ℕ → List PlacedRow
rows_in queues = rows_at queues.keys queues.list

-- the key is that of a queue
abbrev pub IsOfQueue : Key → Type 0
IsOfQueue (OfQueue name) = Unit {0}
IsOfQueue (Own s c) = ⊥
IsOfQueue (SharedOwn client name) = ⊥
IsOfQueue (Durable client name) = ⊥

-- there may be any number of rows
abbrev pub HasNoLimit : Backlog → Type 0
HasNoLimit b = b.limit ≡ None

-- what queues keep: none has a limit, and at each place is one row at most, below the next place
pub record AreQueues (list : List Backlog) (next_place : ℕ) : Type 0 where
  pub unlimited : All HasNoLimit list
  pub single : (place : ℕ) → holders_at place list ≤ 1
  pub below : (place : ℕ) → next_place ≤ place → holders_at place list ≡ 0

-- the queues hold the same, each key stands where it stood, and there is room for as many more rows and messages or for
-- further ones
pub record HaveMoreRoom (old new : Stations) : Type 0 where
  pub rows : rows_in new ≡ rows_in old
  pub found : (key : Key) (i : ℕ) → index_in old.keys key ≡ Some i → index_in new.keys key ≡ Some i
  pub number : length old.list ≤ length new.list
  pub room : (k : ℕ) (d : Backlog) → k < length old.list → (slice_index_or old.list k d).room ≤ (slice_index_or new.list k d).room
  pub messages : old.message_room ≤ new.message_room
  pub next_place : new.next_place ≡ old.next_place

-- where a message stands that is sent there, among those keys: at its queue's, and at none where it goes to a topic
abbrev pub IsQueued : List Key → Destination → List ℕ → Type 0
IsQueued keys (Queue name) indexes = (i : ℕ) × (indexes ≡ i ∷ []) × (index_in keys (OfQueue name) ≡ Some i)
IsQueued keys (Topic name) indexes = indexes ≡ []

-- what queues hold after messages are published, the first at that place
abbrev pub published_queues : ℕ → List Content → (List ℕ → List PlacedRow) → List ℕ → List PlacedRow
published_queues place [] queues = queues
published_queues place (m ∷ messages) queues = published_queues (place + 1) messages (queued m.destination m place queues)

-- each index is within and stands once, and there is room for so many more rows at each
pub record IsReserved (n : ℕ) (list : List Backlog) (indexes : List ℕ) : Type 0 where
  pub within : All (λ i. i < length list) indexes
  pub once : IsDistinct nat_eq indexes
  pub room : All (λ i. (d : Backlog) → n ≤ (slice_index_or list i d).room) indexes

-- a row joins those at a queue, at its place
abbrev pub joins : ℕ → Row → List PlacedRow → List PlacedRow
joins place row rows = rows ++ record { place = place; row = row } ∷ []
