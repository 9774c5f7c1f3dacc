-- What stands under a key, what a delivery takes of it, which messages come to it, and which of them are stored.
use Rattle.std.specs.Prelude.{ℕ, Bool, true, false, List, Option, Some, None}
use Rattle.jm_dest.specs.declared.destination.Destination.{Destination}
use Rattle.jm_dest.specs.declared.destination.Destination.TheVariants as destination
use Rattle.jm_dest.specs.declared.key.Key.{Key}
use Rattle.jm_dest.specs.declared.key.Key.TheVariants.{Queue, Own, SharedOwn, Durable}
use Rattle.jm_dest.specs.Keys.{key_eq}
use Rattle.jm_dest.specs.Names.{text_eq}
use Rattle.jm_header.specs.declared.content.Content.{Content}
use Rattle.jm_header.specs.declared.content.DeliveryMode.{DeliveryMode}
use Rattle.jm_header.specs.declared.content.DeliveryMode.TheVariants.{Persistent, NonPersistent}
use Rattle.jm_machine.specs.declared.state.PlacedRow.{PlacedRow}
use Rattle.jm_machine.specs.declared.state.Station.{Station}
use Rattle.jm_machine.specs.Machine.{Publisher, State, accepts, publisher_of, station_of}
use Rattle.jm_machine.specs.Wants.{next_chosen, next_placed, placed_rows}

-- a key that there may be is that one
abbrev pub is_key : Key → Option Key → Bool
is_key key None = false
is_key key (Some other) = key_eq other key

-- the rows under a key, at their places
abbrev pub placed_under : State → Key → List PlacedRow
placed_under state (Queue name) = state.queues name
placed_under state (Own s c) = placed_rows (station_of (Own s c) state.stations)
placed_under state (SharedOwn client name) = placed_rows (station_of (SharedOwn client name) state.stations)
placed_under state (Durable client name) = placed_rows (station_of (Durable client name) state.stations)

-- the row that a delivery at that moment takes of those under the key: of a queue's one whose message passes
abbrev pub next_under : (Content → Bool) → ℕ → Key → List PlacedRow → Option PlacedRow
next_under p now (Queue name) rows = next_chosen p now rows
next_under p now (Own s c) rows = next_placed now rows
next_under p now (SharedOwn client name) rows = next_placed now rows
next_under p now (Durable client name) rows = next_placed now rows

-- a message that goes there comes to the queue of that name
abbrev pub is_for : List ℕ → Destination → Bool
is_for name (destination.Queue queue) = text_eq queue name
is_for name (destination.Topic topic) = false

-- a subscription that there may be accepts the message of its publisher
abbrev pub is_accepted : Publisher → Content → Option Station → Bool
is_accepted publisher m None = false
is_accepted publisher m (Some x) = accepts x.key x.definition publisher m

-- the message comes to the key, and what is held there outlasts the process: to its queue, or to a durable subscription that
-- accepts it
abbrev pub lasts_at : State → Content → Key → Bool
lasts_at state m (Queue name) = is_for name m.destination
lasts_at state m (Own s c) = false
lasts_at state m (SharedOwn client name) = false
lasts_at state m (Durable client name) = is_accepted (publisher_of state.life m) m (station_of (Durable client name) state.stations)

-- the mode stores messages (Jakarta Messaging 3.1, section 3.4.2)
abbrev pub is_persistent : DeliveryMode → Bool
is_persistent NonPersistent = false
is_persistent Persistent = true
