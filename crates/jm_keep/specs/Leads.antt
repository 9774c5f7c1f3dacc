-- Which changes lead from what is stored of one state to what is stored of another.
use Rattle.std.specs.Prelude.{◌≡◌, ℕ, Bool, true, false, ◌==◌, List, [], ◌∷◌, ◌++◌, map, Option, Some, None, IsSome, option_map}
use Rattle.std.specs.List.{list_any}
use Rattle.jm_dest.specs.declared.key.Key.{Key}
use Rattle.jm_dest.specs.Keys.{key_eq}
use Rattle.jm_header.specs.declared.content.Content.{Content}
use Rattle.jm_header.specs.Headers.{is_delayed}
use Rattle.jm_format.specs.Format as format
use Rattle.jm_machine.specs.declared.state.Definition.{Definition}
use Rattle.jm_machine.specs.Machine.{State}
use Rattle.jm_machine.specs.Rows.{fresh}
use Rattle.jm_keep.specs.Stored.{is_at, definition_after}
use Rattle.jm_keep.specs.Persisted.{StoredRow, stored_row, shown, due_time, durable_definition, LeadsTo}
use Rattle.jm_keep.specs.declared.change.RowChange.{RowChange}
use Rattle.jm_keep.specs.declared.change.RowChange.TheVariants.{DropHeld, DropMessage, DropStation, PutStation, PutMessage, PutHeld, SetCount, DropDelay, PutDelay}

-- a row of a key at a place
abbrev pub is_one_of : List (Key × ℕ) → Key → ℕ → Bool
is_one_of rows key place = list_any (λ x. is_at x.0 x.1 key place) rows

-- a place
abbrev pub is_among : List ℕ → ℕ → Bool
is_among places place = list_any (λ p. p == place) places

-- rows go, then delivery times, and then messages
abbrev pub drops : List (Key × ℕ) → List ℕ → List ℕ → List RowChange
drops rows delays places = map (λ x. DropHeld x.0 x.1) rows ++ map (λ p. DropDelay p) delays ++ map (λ p. DropMessage p) places

-- the places are those of the messages of which every stored row is among the rows
pub record AreLast (state : State) (rows : List (Key × ℕ)) (places : List ℕ) : Type 0 where
  pub last : (key : Key) (place : ℕ) → is_among places place ≡ true → IsSome (stored_row state key place) → is_one_of rows key place ≡ true
  pub left : (key : Key) (place : ℕ) → is_among places place ≡ false → is_one_of rows key place ≡ true → (other : Key) × IsSome (stored_row state other place) × (is_one_of rows other place ≡ false)

-- of the places those are where the message has a delay, as a stored row there shows
pub record AreDelays (state : State) (delays places : List ℕ) : Type 0 where
  pub among : (place : ℕ) → is_among delays place ≡ true → is_among places place ≡ true
  pub delayed : (place : ℕ) → is_among places place ≡ true → (key : Key) × (r : StoredRow) × (stored_row state key place ≡ Some r) × (is_among delays place ≡ is_delayed r.message)

-- a state has lost those rows, and with them the messages at those places, of which no stored row is left; of the messages
-- those have a delay
pub record Loses (old new : State) (rows : List (Key × ℕ)) (delays places : List ℕ) : Type 0 where
  pub definitions : (key : Key) → durable_definition new key ≡ durable_definition old key
  pub gone : (key : Key) (place : ℕ) → is_one_of rows key place ≡ true → stored_row new key place ≡ None
  pub kept : (key : Key) (place : ℕ) → is_one_of rows key place ≡ false → stored_row new key place ≡ stored_row old key place
  pub last : (key : Key) (place : ℕ) → is_among places place ≡ true → stored_row new key place ≡ None
  pub left : (key : Key) (place : ℕ) → is_among places place ≡ false → is_one_of rows key place ≡ true → (other : Key) × IsSome (stored_row new other place)
  pub delays_are : AreDelays old delays places

-- the delivery time of a message comes, where it has a delay
abbrev pub put_delay : ℕ → Option ℕ → List RowChange
put_delay place None = []
put_delay place (Some due) = PutDelay place due ∷ []

-- what is stored of a message that comes to those keys, of which there is one at least
abbrev pub puts : List Key → ℕ → Content → List RowChange
puts keys place m = PutMessage place (format.record m) ∷ put_delay place (due_time m) ++ map (λ key. PutHeld key place) keys

-- a state has got the message at the place, under those keys
pub record Gains (old new : State) (keys : List Key) (place : ℕ) (m : Content) : Type 0 where
  pub definitions : (key : Key) → durable_definition new key ≡ durable_definition old key
  pub new_place : (key : Key) → stored_row old key place ≡ None
  pub come : (key : Key) → list_any (λ k. key_eq k key) keys ≡ true → stored_row new key place ≡ Some (shown (fresh m))
  pub absent : (key : Key) → list_any (λ k. key_eq k key) keys ≡ false → stored_row new key place ≡ None
  pub others : (key : Key) (p : ℕ) → (place == p) ≡ false → stored_row new key p ≡ stored_row old key p
  pub some_key : Key
  pub is_there : list_any (λ k. key_eq k some_key) keys ≡ true

-- the same is stored of both states
pub record StoresTheSame (old new : State) : Type 0 where
  pub definitions : (key : Key) → durable_definition new key ≡ durable_definition old key
  pub rows : (key : Key) (place : ℕ) → stored_row new key place ≡ stored_row old key place

-- a row of a key was delivered so often, and all else is as before
pub record Counts (old new : State) (k : Key) (place count : ℕ) : Type 0 where
  pub definitions : (key : Key) → durable_definition new key ≡ durable_definition old key
  pub own : stored_row new k place ≡ option_map (λ r. record { count = count; message = r.message }) (stored_row old k place)
  pub others : (key : Key) (p : ℕ) → is_at k place key p ≡ false → stored_row new key p ≡ stored_row old key p

abbrev pub CountLeads : Type 0
CountLeads = (old new : State) (k : Key) (place count : ℕ) → Counts old new k place count → LeadsTo old new (SetCount k place count ∷ [])

-- the durable subscription of the key is as that change has it, and all rows are as before
pub record Defines (old new : State) (change : RowChange) : Type 0 where
  pub definitions : (key : Key) → durable_definition new key ≡ definition_after key (durable_definition old key) change
  pub rows : (key : Key) (place : ℕ) → stored_row new key place ≡ stored_row old key place

abbrev pub StationLeads : Type 0
StationLeads = (old new : State) (key : Key) (definition : Option Definition) → (Defines old new (DropStation key) → LeadsTo old new (DropStation key ∷ [])) × (Defines old new (PutStation key definition) → LeadsTo old new (PutStation key definition ∷ []))

-- then nothing is to be changed
abbrev pub NothingLeads : Type 0
NothingLeads = (old new : State) → StoresTheSame old new → LeadsTo old new []

abbrev pub DropsLead : Type 0
DropsLead = (old new : State) (rows : List (Key × ℕ)) (delays places : List ℕ) → Loses old new rows delays places → LeadsTo old new (drops rows delays places)

abbrev pub PutsLead : Type 0
PutsLead = (old new : State) (keys : List Key) (place : ℕ) (m : Content) → Gains old new keys place m → LeadsTo old new (puts keys place m)

abbrev pub ChangesChain : Type 0
ChangesChain = (a b c : State) (xs ys : List RowChange) → LeadsTo a b xs → LeadsTo b c ys → LeadsTo a c (xs ++ ys)
