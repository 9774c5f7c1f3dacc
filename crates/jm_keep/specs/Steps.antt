-- What each part of a step loses of what is stored, and what it gains.
use Rattle.std.specs.Prelude.{◌≡◌, ℕ, Bool, true, false, ◌&&◌, ◌||◌, ◌==◌, List, [], ◌∷◌, ◌++◌, Option, Some, None, if◌then◌else◌}
use Rattle.std.specs.List.{list_any}
use Rattle.jm_dest.specs.declared.key.Key.{Key}
use Rattle.jm_dest.specs.declared.key.Key.TheVariants.{Durable}
use Rattle.jm_dest.specs.declared.session.SessionId.{SessionId}
use Rattle.jm_dest.specs.Keys.{key_eq}
use Rattle.jm_header.specs.declared.content.Content.{Content}
use Rattle.jm_machine.specs.declared.state.PlacedRow.{PlacedRow}
use Rattle.jm_machine.specs.declared.state.Row.{Row}
use Rattle.jm_machine.specs.Rows.{has_lapsed, is_out, raised, sent_out, InOrder}
use Rattle.jm_machine.specs.Machine.{State, new_core, AllInOrder, receive, settled, returned, with_done, of_number, deleted, put, with_message}
use Rattle.jm_keep.specs.Persisted.{row_at, is_lasting, IsPersisted, LeadsTo}
use Rattle.jm_keep.specs.Stored.{nothing}
use Rattle.jm_keep.specs.Leads.{is_one_of, drops, AreLast, AreDelays, Loses, Gains, StoresTheSame}
use Rattle.jm_keep.specs.declared.change.RowChange.{RowChange}
use Rattle.jm_keep.specs.declared.change.RowChange.TheVariants.{DropStation, PutStation, SetCount}
use Rattle.jm_machine.specs.declared.state.Definition.{Definition}
use Rattle.jm_machine.specs.Under.{is_persistent, lasts_at, next_under, placed_under}

-- the rows of each queue stand by place, and those of each subscription
pub record StandsInOrder (state : State) : Type 0 where
  pub stations : AllInOrder state.next_place state.stations
  pub queues : (name : List ℕ) → InOrder state.next_place (state.queues name)

-- the place is that of the row
abbrev pub is_place_of : Option PlacedRow → ℕ → Bool
is_place_of None place = false
is_place_of (Some x) place = x.place == place

-- a row that there may be is stored, and passes
abbrev pub passes : (Row → Bool) → Option Row → Bool
passes p None = false
passes p (Some r) = is_persistent r.message.mode && p r

-- the rows are the stored ones that go, the places those of their messages of which none is left, and the delays those of
-- these messages that have a delay
pub record AreGone (goes : Key → ℕ → Row → Bool) (state : State) (rows : List (Key × ℕ)) (delays places : List ℕ) : Type 0 where
  pub rows_are : (key : Key) (place : ℕ) → is_one_of rows key place ≡ (is_lasting key && passes (goes key place) (row_at place (placed_under state key)))
  pub places_are : AreLast state rows places
  pub delays_are : AreDelays state delays places

-- in a delivery from the key that settles at once each row of it goes that has lapsed, and the one that is taken
abbrev pub taken_under : Key → ℕ → Option PlacedRow → Key → ℕ → Row → Bool
taken_under k now next key place r = key_eq k key && (has_lapsed now r || is_place_of next place)

-- in one that does not settle each row of it goes that has lapsed
abbrev pub lapsed_under : Key → ℕ → Key → ℕ → Row → Bool
lapsed_under k now key place r = key_eq k key && has_lapsed now r

-- where consumers that pass settle, each row goes that is out through them
abbrev pub out_through : (SessionId → ℕ → Bool) → Key → ℕ → Row → Bool
out_through p key place r = is_out p r

-- where a listener is done with its message, each row of its consumer's key goes that is out through this consumer
abbrev pub out_under : Key → (SessionId → ℕ → Bool) → Key → ℕ → Row → Bool
out_under k p key place r = key_eq k key && is_out p r

-- with its subscription each row of the key goes
abbrev pub all_under : Key → Key → ℕ → Row → Bool
all_under k key place r = key_eq k key

-- the count of the row that is taken is set, where it is stored
abbrev pub counted : Key → Option PlacedRow → List RowChange
counted k None = []
counted k (Some x) = if is_persistent x.row.message.mode then SetCount k x.place (raised x.row.count) ∷ [] else []

-- a PERSISTENT message that is published comes to the keys that take it
abbrev pub PublishGains : Type 0
PublishGains =
    (state : State) (m : Content) (keys : List Key) (one : Key) →
    StandsInOrder state → is_persistent m.mode ≡ true →
    ((key : Key) → list_any (λ k. key_eq k key) keys ≡ lasts_at state m key) → lasts_at state m one ≡ true →
    Gains state (with_message state m) keys state.next_place m

-- an acknowledgement and a commit lose the rows that are out through consumers that pass
abbrev pub SettleLoses : Type 0
SettleLoses =
    (state : State) (p : SessionId → ℕ → Bool) (rows : List (Key × ℕ)) (delays places : List ℕ) →
    StandsInOrder state → AreGone (out_through p) state rows delays places → Loses state (settled p state) rows delays places

-- a listener that is done with its message loses the rows of its consumer's key that are out through this consumer
abbrev pub DoneLoses : Type 0
DoneLoses =
    (state : State) (s : SessionId) (c : ℕ) (k : Key) (rows : List (Key × ℕ)) (delays places : List ℕ) →
    StandsInOrder state → is_lasting k ≡ true → AreGone (out_under k (of_number s c)) state rows delays places →
    Loses state (with_done s c true (Some k) state) rows delays places

-- what is given back changes nothing of what is stored
abbrev pub ReturnStores : Type 0
ReturnStores = (state : State) (p : SessionId → ℕ → Bool) → StoresTheSame state (returned p state)

-- a delivery that settles at once loses the rows that have lapsed, and the one that is taken
abbrev pub ReceiveLoses : Type 0
ReceiveLoses =
    (state : State) (p : Content → Bool) (now : ℕ) (k : Key) (rows : List (Key × ℕ)) (delays places : List ℕ) →
    StandsInOrder state → is_lasting k ≡ true → AreGone (taken_under k now (next_under p now k (placed_under state k))) state rows delays places →
    Loses state (receive p (λ r. []) now (Some k) state) rows delays places

-- a delivery that settles nothing loses the rows that have lapsed; the one that goes out through the consumer is counted
abbrev pub CountedReceiveLeads : Type 0
CountedReceiveLeads =
    (state : State) (p : Content → Bool) (s : SessionId) (c now : ℕ) (k : Key) (rows : List (Key × ℕ)) (delays places : List ℕ) →
    StandsInOrder state → is_lasting k ≡ true → AreGone (lapsed_under k now) state rows delays places →
    LeadsTo state (receive p (λ r. sent_out s c r ∷ []) now (Some k) state) (drops rows delays places ++ counted k (next_under p now k (placed_under state k)))

-- of a new core nothing is stored
abbrev pub NewStoresNothing : Type 0
NewStoresNothing = (opening limit : ℕ) → IsPersisted (new_core opening limit) nothing

-- a durable subscription that is deleted loses its rows, and then goes itself
abbrev pub DeleteLeads : Type 0
DeleteLeads = (state : State) (client : Option (List ℕ)) (name : List ℕ) (rows : List (Key × ℕ)) (delays places : List ℕ) → AreGone (all_under (Durable client name)) state rows delays places → LeadsTo state (deleted (Durable client name) state) (drops rows delays places ++ DropStation (Durable client name) ∷ [])

-- one that is put where none is comes as it is defined
abbrev pub PutLeads : Type 0
PutLeads = (state : State) (client : Option (List ℕ)) (name : List ℕ) (d : Definition) → LeadsTo (deleted (Durable client name) state) (put (Durable client name) d state) (PutStation (Durable client name) (Some d) ∷ [])
