-- Rows as they stand under keys, and which of them go.
use Rattle.std.specs.Prelude.{◌≡◌, ◌<◌, ◌⊎◌, ℕ, Bool, true, false, not, ◌&&◌, nat_le, List, [], ◌∷◌, length, find, slice_index_or, Option, Some, None, IfSome}
use Rattle.jm_dest.specs.declared.key.Key.{Key}
use Rattle.jm_dest.specs.declared.key.Key.TheVariants.{Queue}
use Rattle.jm_dest.specs.Keys.{key_eq}
use Rattle.jm_header.specs.Headers.{is_delayed}
use Rattle.jm_machine.specs.declared.state.PlacedRow.{PlacedRow}
use Rattle.jm_machine.specs.declared.state.Row.{Row}
use Rattle.jm_machine.specs.Rows.{has_lapsed, is_out}
use Rattle.jm_machine.specs.Machine.{State, are_meant}
use Rattle.jm_machine.specs.Under.{is_persistent, placed_under}
use Rattle.jm_keep.specs.Persisted.{is_lasting, row_at}
use Rattle.jm_keep.specs.Leads.{is_among, is_one_of}
use Rattle.jm_keep.specs.Steps.{passes}
use Rattle.jm_changes.specs.declared.planned.Standing.{Standing}
use Rattle.jm_changes.specs.declared.planned.Which.{Which}
use Rattle.jm_changes.specs.declared.planned.Which.TheVariants.{All, Lapsed, Out}
use Rattle.jm_changes.specs.declared.going.Going.{Going}
use Rattle.jm_changes.specs.declared.going.Going.TheVariants as going

-- the rows that are meant
abbrev pub meant : Which → Row → Bool
meant All r = true
meant (Lapsed now) r = has_lapsed now r
meant (Out which) r = is_out (are_meant which) r

-- the first row by place, from that place on, that passes
abbrev pub first_where : (Row → Bool) → ℕ → List PlacedRow → Option PlacedRow
first_where q place rows = find (λ x. nat_le place x.place && q x.row) rows

-- the row at the place that a delivery takes: the first from there on
abbrev pub taken_row : Option ℕ → List PlacedRow → Option PlacedRow
taken_row None rows = None
taken_row (Some place) rows = first_where (λ r. true) place rows

-- what is read of a row
abbrev pub standing : PlacedRow → Standing
standing x = record { place = x.place; count = x.row.count; is_persistent = is_persistent x.row.message.mode; is_delayed = is_delayed x.row.message }

-- the key at an index
abbrev pub key_in : List Key → ℕ → Key
key_in keys i = slice_index_or keys i (Queue [])

-- each key under which rows stand is one of those
abbrev pub Covers : List Key → State → Type 0
Covers keys state = (key : Key) → (placed_under state key ≡ []) ⊎ ((i : ℕ) × (i < length keys) × (key_in keys i ≡ key))

-- a row at a place that was met goes: each of the one key does, or each that is out through those consumers
abbrev pub goes : List Key → Going → Key → Row → Bool
goes keys (going.Under i) key r = key_eq (key_in keys i) key
goes keys (going.Out which) key r = is_out (are_meant which) r

-- a stored row of the key stands at the place, and does not go
abbrev pub stays : (Key → Row → Bool) → State → Key → ℕ → Bool
stays g state key place = is_lasting key && passes (λ r. not (g key r)) (row_at place (placed_under state key))

-- the row under the key at its place has a delay exactly where that was read
abbrev pub IsRead : State → Key → Standing → Type 0
IsRead state key s = IfSome (row_at s.place (placed_under state key)) (λ r. s.is_delayed ≡ is_delayed r.message)

-- the place of a message that goes, where it has a delay
abbrev pub delay_at : Bool → ℕ → List ℕ
delay_at true place = place ∷ []
delay_at false place = []

-- one of the rows stands at the place, and its message has a delay exactly where the place is among the delays
abbrev pub Tells : State → List (Key × ℕ) → List ℕ → ℕ → Type 0
Tells state rows delays place = (key : Key) × (is_one_of rows key place ≡ true) × IfSome (row_at place (placed_under state key)) (λ r. is_among delays place ≡ is_delayed r.message)

-- of the rows that go, the places of those messages go of which no stored row stays; the delays are those of these places
-- where the message has a delay
pub record AreMet (g : Key → Row → Bool) (state : State) (rows : List (Key × ℕ)) (delays places : List ℕ) : Type 0 where
  pub met : (place : ℕ) → is_among places place ≡ true → Tells state rows delays place
  pub among : (place : ℕ) → is_among delays place ≡ true → is_among places place ≡ true
  pub last : (place : ℕ) → is_among places place ≡ true → (key : Key) → stays g state key place ≡ false
  pub left : (key : Key) (place : ℕ) → is_among places place ≡ false → is_one_of rows key place ≡ true → (other : Key) × (stays g state other place ≡ true)

-- the one key is one of those
abbrev pub IsWithin : List Key → Going → Type 0
IsWithin keys (going.Under i) = i < length keys
IsWithin keys (going.Out which) = Unit {0}

-- some stored row stands at the place and stays, or none
abbrev pub IsLeft : (Key → Row → Bool) → State → ℕ → Bool → Type 0
IsLeft g state place true = (other : Key) × (stays g state other place ≡ true)
IsLeft g state place false = (key : Key) → stays g state key place ≡ false

-- the key stands there among those; or nowhere, and no row stands under it
abbrev pub IsIndexOf : List Key → State → Key → Option ℕ → Type 0
IsIndexOf keys state key None = placed_under state key ≡ []
IsIndexOf keys state key (Some i) = (i < length keys) × (key_in keys i ≡ key)

-- the rows are those of the key at whose places they go
abbrev pub AreOf : Key → (ℕ → Row → Bool) → State → List (Key × ℕ) → Type 0
AreOf k q state rows = (key : Key) (place : ℕ) → is_one_of rows key place ≡ (key_eq k key && passes (q place) (row_at place (placed_under state k)))
