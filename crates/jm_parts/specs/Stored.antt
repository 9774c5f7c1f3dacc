-- What was stored of a provider, and the state that is made of it again.
use Rattle.std.specs.Prelude.{◌≡◌, ◌≤◌, ◌<◌, ◌+◌, ◌++◌, ◌&&◌, ℕ, zero, suc, Bool, true, false, List, [], ◌∷◌, All, map, length, nat_eq, slice_index_or, Option, Some, None, option_map, if◌then◌else◌}
use Rattle.std.specs.List.{IsDistinct}
use Rattle.jm_dest.specs.declared.destination.Destination.{Destination}
use Rattle.jm_dest.specs.declared.destination.Destination.TheVariants as destination
use Rattle.jm_dest.specs.Keys.{key_eq}
use Rattle.jm_dest.specs.Names.{text_eq}
use Rattle.jm_header.specs.declared.content.Content.{Content}
use Rattle.jm_machine.specs.declared.state.Definition.{Definition}
use Rattle.jm_machine.specs.declared.state.PlacedRow.{PlacedRow}
use Rattle.jm_machine.specs.declared.state.Station.{Station}
use Rattle.jm_machine.specs.Machine.{State, is_to, places_end}
use Rattle.jm_machine.specs.Reopened.{is_durable, reopened}
use Rattle.jm_machine.specs.Rows.{greatest_count}
use Rattle.jm_machine.specs.Under.{is_persistent}
use Rattle.jm_selector.specs.Selectors.{matches}
use Rattle.jm_stations.specs.declared.loading.StoredRow.{StoredRow}
use Rattle.jm_stations.specs.Loading.{stored_at, stored_row}
use Rattle.jm_parts.specs.declared.stored.Holders.{Holders}
use Rattle.jm_parts.specs.declared.stored.Holders.TheVariants as holders
use Rattle.jm_parts.specs.declared.stored.StoredMessage.{StoredMessage}
use Rattle.jm_parts.specs.declared.stored.StoredSubscription.{StoredSubscription}

-- What may be stored

-- a durable subscription that asks for that may hold the message: it is PERSISTENT and goes to the topic, and the selector is
-- absent or TRUE for it
abbrev pub admits : Definition → Content → Bool
admits d m = is_persistent m.mode && (is_to d.topic m.destination && matches d.selector m)

-- the queue of that name may: the message is PERSISTENT, and was sent to it
abbrev pub sent_to : List ℕ → Bool → Destination → Bool
sent_to name persistent (destination.Queue queue) = persistent && text_eq queue name
sent_to name persistent (destination.Topic topic) = false

abbrev pub queue_admits : List ℕ → Content → Bool
queue_admits name m = sent_to name (is_persistent m.mode) m.destination

-- a row stands under one of the subscriptions, which may hold the message; a count is not above the greatest
pub record IsAdmitted (subscriptions : List StoredSubscription) (m : Content) (r : StoredRow) : Type 0 where
  pub within : r.index < length subscriptions
  pub admitted : (d : StoredSubscription) → admits (slice_index_or subscriptions r.index d).definition m ≡ true
  pub counted : r.count ≤ greatest_count

-- who holds the message may hold it: its queue, or subscriptions, each once
abbrev pub AreHolders : List StoredSubscription → Content → Holders → Type 0
AreHolders subscriptions m (holders.Queue count) = ((name : List ℕ) × (queue_admits name m ≡ true)) × (count ≤ greatest_count)
AreHolders subscriptions m (holders.Subscriptions rows) = All (IsAdmitted subscriptions m) rows.items × IsDistinct nat_eq (map (λ (r : StoredRow). r.index) rows.items)

-- messages stand at places from that one on, each above those before it
abbrev pub ArePlaced : ℕ → List StoredMessage → Type 0
ArePlaced from [] = Unit {0}
ArePlaced from (m ∷ messages) = (from ≤ m.place) × (m.place < places_end) × ArePlaced (m.place + 1) messages

-- A core can be made of it: each subscription is durable and stands once; messages stand by place, from 1 on, and who holds
-- one may hold it.
pub record MayReopen (subscriptions : List StoredSubscription) (messages : List StoredMessage) : Type 0 where
  pub durable : All (λ (s : StoredSubscription). is_durable s.key ≡ true) subscriptions
  pub once : IsDistinct key_eq (map (λ (s : StoredSubscription). s.key) subscriptions)
  pub placed : ArePlaced 1 messages
  pub held : All (λ (m : StoredMessage). AreHolders subscriptions m.message m.holders) messages

-- The state that is made of it

-- how often a message was delivered to the subscription with that index, where that holds it
abbrev pub count_under : ℕ → Holders → Option ℕ
count_under i (holders.Queue count) = None
count_under i (holders.Subscriptions rows) = option_map (λ (r : StoredRow). r.count) (stored_at i rows.items)

-- how often it was delivered from the queue of that name, where that holds it
abbrev pub count_at : List ℕ → Destination → Holders → Option ℕ
count_at name (destination.Queue queue) (holders.Queue count) = if text_eq queue name then Some count else None
count_at name (destination.Queue queue) (holders.Subscriptions rows) = None
count_at name (destination.Topic topic) h = None

-- the row of a message that was delivered so often, where it is held: it waits at the message's place
abbrev pub row_stored : ℕ → Content → Option ℕ → List PlacedRow
row_stored place m None = []
row_stored place m (Some count) = record { place = place; row = stored_row m count } ∷ []

-- the rows of messages that were delivered so often, by place
abbrev pub rows_stored : (StoredMessage → Option ℕ) → List StoredMessage → List PlacedRow
rows_stored count [] = []
rows_stored count (m ∷ messages) = row_stored m.place m.message (count m) ++ rows_stored count messages

-- the rows under the subscription with that index
abbrev pub rows_under : List StoredMessage → ℕ → List PlacedRow
rows_under messages i = rows_stored (λ m. count_under i m.holders) messages

-- the rows of the queue of that name
abbrev pub rows_at : List StoredMessage → List ℕ → List PlacedRow
rows_at messages name = rows_stored (λ m. count_at name m.message.destination m.holders) messages

-- the subscriptions, each with the rows under its index; none missed anything
abbrev pub stations_stored : (ℕ → List PlacedRow) → List StoredSubscription → List Station
stations_stored rows [] = []
stations_stored rows (s ∷ subscriptions) = record { key = s.key; definition = s.definition; missed = 0; rows = rows zero } ∷ stations_stored (λ i. rows (suc i)) subscriptions

-- the place after the last message, which stands at the greatest; where there is none, that one
abbrev pub place_after : ℕ → List StoredMessage → ℕ
place_after next [] = next
place_after next (m ∷ messages) = place_after (m.place + 1) messages

-- the state that is made of it again, in that opening and with that limit: nobody is connected, and all rows wait
abbrev pub state_stored : ℕ → ℕ → List StoredSubscription → List StoredMessage → State
state_stored opening limit subscriptions messages = reopened opening limit (stations_stored (rows_under messages) subscriptions) (rows_at messages) (place_after 1 messages)
