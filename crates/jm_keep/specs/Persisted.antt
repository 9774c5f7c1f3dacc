-- What is stored of the provider's state: the definitions of durable subscriptions, and the rows of PERSISTENT messages
-- under them and under queues, each with its place and count; of a message with a delay also its delivery time.
use Rattle.std.specs.Prelude.{◌≡◌, ℕ, Bool, true, false, ◌==◌, List, [], ◌∷◌, Option, Some, None, IfSome, if◌then◌else◌}
use Rattle.jm_dest.specs.declared.key.Key.{Key}
use Rattle.jm_dest.specs.declared.key.Key.TheVariants.{Queue, Own, SharedOwn, Durable}
use Rattle.jm_header.specs.declared.content.Content.{Content}
use Rattle.jm_header.specs.Headers.{is_delayed}
use Rattle.jm_format.specs.Format as format
use Rattle.jm_machine.specs.declared.state.PlacedRow.{PlacedRow}
use Rattle.jm_machine.specs.declared.state.Row.{Row}
use Rattle.jm_machine.specs.declared.state.Definition.{Definition}
use Rattle.jm_machine.specs.Machine.{State, station_of, definition_of}
use Rattle.jm_machine.specs.Reopened.{is_durable}
use Rattle.jm_machine.specs.Under.{is_persistent, placed_under}
use Rattle.jm_keep.specs.Stored.{Stored, changed_all}
use Rattle.jm_keep.specs.declared.change.RowChange.{RowChange}

-- what is held under the key outlasts the process: under a queue and a durable subscription
abbrev pub is_lasting : Key → Bool
is_lasting (Queue name) = true
is_lasting (Own s c) = false
is_lasting (SharedOwn client name) = false
is_lasting (Durable client name) = true

-- the row at the place
abbrev pub row_at : ℕ → List PlacedRow → Option Row
row_at place [] = None
row_at place (x ∷ rows) = if x.place == place then Some x.row else row_at place rows

-- what is stored of a row: whether it waits or is out is not
pub record StoredRow : Type 0 where
  pub count : ℕ
  pub message : Content

abbrev pub shown : Row → StoredRow
shown r = record { count = r.count; message = r.message }

-- a row is stored where its message is PERSISTENT
abbrev pub if_stored : Option Row → Option StoredRow
if_stored None = None
if_stored (Some r) = if is_persistent r.message.mode then Some (shown r) else None

-- the row that is stored of a key at a place
abbrev pub stored_row : State → Key → ℕ → Option StoredRow
stored_row state key place = if is_lasting key then if_stored (row_at place (placed_under state key)) else None

-- the count of a row
abbrev pub count_of : Option StoredRow → Option ℕ
count_of None = None
count_of (Some r) = Some r.count

-- what the durable subscription of the key asks for
abbrev pub durable_definition : State → Key → Option Definition
durable_definition state key = if is_durable key then definition_of (station_of key state.stations) else None

-- that is what is kept of the message at a place: each stored row that holds it shows this, and it is nothing where none does
pub record IsKeptOf (A : Type 0) (kept_of : Content → Option A) (state : State) (place : ℕ) (kept : Option A) : Type 0 where
  pub held : (key : Key) → IfSome (stored_row state key place) (λ r. kept ≡ kept_of r.message)
  pub free : ((key : Key) → stored_row state key place ≡ None) → kept ≡ None

-- of the message at a place its record is stored
abbrev pub IsRecord : State → ℕ → Option (List ℕ) → Type 0
IsRecord = IsKeptOf (List ℕ) (λ m. Some (format.record m))

-- the delivery time of a message with a delay
abbrev pub due_time : Content → Option ℕ
due_time m = if is_delayed m then Some m.delivery_time else None

-- of the message at a place its delivery time is stored, where it has a delay
abbrev pub IsDue : State → ℕ → Option ℕ → Type 0
IsDue = IsKeptOf ℕ due_time

-- that is what is stored of the state
pub record IsPersisted (state : State) (s : Stored) : Type 0 where
  pub definitions : (key : Key) → s.definition key ≡ durable_definition state key
  pub counts : (key : Key) (place : ℕ) → s.count key place ≡ count_of (stored_row state key place)
  pub messages : (place : ℕ) → IsRecord state place (s.message place)
  pub dues : (place : ℕ) → IsDue state place (s.due place)

-- the changes lead from what is stored of one state to what is stored of another
abbrev pub LeadsTo : State → State → List RowChange → Type 0
LeadsTo old new changes = (s : Stored) → IsPersisted old s → IsPersisted new (changed_all s changes)
