-- What is stored of a state whose rows hold messages.
use Rattle.std.proofs.Common.{◌≡◌, ◌≤◌, ℕ, Bool, true, false, cond, List, [], ◌∷◌, Option, Some, None, refl, ap, subst, arith}
use Rattle.std.specs.Prelude.{◌==◌, IsTrue}
use Rattle.std.proofs.lemmas.Bool.Decides.{nat_tests}
use Rattle.jm_dest.specs.declared.destination.Destination.TheVariants.{Queue as ToQueue, Topic as ToTopic}
use Rattle.jm_dest.specs.declared.key.Key.{Key}
use Rattle.jm_dest.specs.declared.key.Key.TheVariants.{Queue, Own, SharedOwn, Durable}
use Rattle.jm_dest.specs.Keys.{key_eq}
use Rattle.jm_header.specs.declared.content.Content.{Content}
use Rattle.jm_format.specs.Messages.{IsMessage}
use Rattle.jm_selector.specs.Selectors.{matches, selector_refusal}
use Rattle.jm_machine.specs.declared.state.Definition.{Definition}
use Rattle.jm_machine.specs.declared.state.PlacedRow.{PlacedRow}
use Rattle.jm_machine.specs.declared.state.Row.{Row}
use Rattle.jm_machine.specs.declared.state.Station.{Station}
use Rattle.jm_machine.specs.Machine.{State, definition_of, station_of}
use Rattle.jm_machine.specs.Wants.{placed_rows}
use Rattle.jm_machine.specs.Under.{is_persistent}
use Rattle.jm_keep.specs.Persisted.{StoredRow, count_of, durable_definition, if_stored, row_at, shown, stored_row}
use Rattle.jm_holds.specs.Holds.{AllHold, EachHolds, HoldsAsked, HoldsMessages, IsOfQueue, IsOfTopic}

-- ---- rows and stations

row_there : (Is : Content → Type 0) (place : ℕ) (rows : List PlacedRow) (r : Row) → AllHold Is rows → row_at place rows ≡ Some r → (1 ≤ place) × Is r.message
row_there Is place [] r h e = cc
row_there Is place (x ∷ rows) r h e = go (x.place == place) refl e (row_there Is place rows r h.1)
  where
    go : (b : Bool) → (x.place == place) ≡ b → cond b (Some x.row) (row_at place rows) ≡ Some r → (row_at place rows ≡ Some r → (1 ≤ place) × Is r.message) → (1 ≤ place) × Is r.message
    go true same is later =
        let row : x.row ≡ r = cc in
        let at : x.place ≡ place = grind (arith, nat_tests) in
        (subst (λ n. 1 ≤ n) at h.0.0, subst (λ (y : Row). Is y.message) row h.0.1)
    go false other is later = later is

pub station_there : (key : Key) (xs : List Station) (x : Station) → EachHolds xs → station_of key xs ≡ Some x → HoldsAsked x
station_there key [] x h e = cc
station_there key (y ∷ xs) x h e = go (key_eq y.key key) refl e (station_there key xs x h.1)
  where
    go : (b : Bool) → key_eq y.key key ≡ b → cond b (Some y) (station_of key xs) ≡ Some x → (station_of key xs ≡ Some x → HoldsAsked x) → HoldsAsked x
    go true same is later = let here : y ≡ x = cc in subst HoldsAsked here h.0
    go false other is later = later is

-- ---- what is stored

-- a row that is stored is that of a PERSISTENT message
if_stored_is : (o : Option Row) (r : StoredRow) → if_stored o ≡ Some r → (row : Row) × (o ≡ Some row) × IsTrue (is_persistent row.message.mode) × (shown row ≡ r)
if_stored_is None r e = cc
if_stored_is (Some row) r e = go (is_persistent row.message.mode) refl e
  where
    go : (b : Bool) → is_persistent row.message.mode ≡ b → cond b (Some (shown row)) None ≡ Some r → (x : Row) × (Some row ≡ Some x) × IsTrue (is_persistent x.message.mode) × (shown x ≡ r)
    go true is same = (row, refl, is, (let here : shown row ≡ r = cc in here))
    go false is same = cc

-- the key may hold the message, as the state has it
abbrev pub IsHolder : State → Key → Content → Type 0
IsHolder state (Queue name) m = m.destination ≡ ToQueue name
IsHolder state (Own s c) m = ⊥
IsHolder state (SharedOwn client name) m = ⊥
IsHolder state (Durable client name) m = (d : Definition) × (durable_definition state (Durable client name) ≡ Some d) × (m.destination ≡ ToTopic d.topic) × IsTrue (matches d.selector m)

-- a row that is stored stands at a place, and holds a PERSISTENT message that its key may hold
pub record IsStoredOf (state : State) (key : Key) (place : ℕ) (r : StoredRow) : Type 0 where
  pub place_is : 1 ≤ place
  pub message : IsMessage r.message
  pub persistent : IsTrue (is_persistent r.message.mode)
  pub holder : IsHolder state key r.message

module _ (state : State) (h : HoldsMessages state) where
  pub stored_holds : (key : Key) (place : ℕ) (r : StoredRow) → stored_row state key place ≡ Some r → IsStoredOf state key place r
  stored_holds (Queue name) place r e =
      let row = if_stored_is (row_at place (state.queues name)) r e in
      let there = row_there (IsOfQueue name) place (state.queues name) row.0 (h.queues name) row.1 in
      subst (IsStoredOf state (Queue name) place) row.3 (record { place_is = there.0; message = there.1.message; persistent = row.2; holder = there.1.sent })
  stored_holds (Own s c) place r e = cc
  stored_holds (SharedOwn client name) place r e = cc
  stored_holds (Durable client name) place r e = go (station_of (Durable client name) state.stations) refl e
    where
      go : (o : Option Station) → station_of (Durable client name) state.stations ≡ o → if_stored (row_at place (placed_rows o)) ≡ Some r → IsStoredOf state (Durable client name) place r
      go None is f = cc
      go (Some x) is f =
          let row = if_stored_is (row_at place x.rows) r f in
          let asked = station_there (Durable client name) state.stations x h.stations is in
          let there = row_there (IsOfTopic x.definition) place x.rows row.0 asked.rows row.1 in
          subst (IsStoredOf state (Durable client name) place) row.3 (record {
            place_is = there.0;
            message = there.1.message;
            persistent = row.2;
            holder = (x.definition, ap definition_of is, there.1.sent, there.1.selected);
          })

  -- what a durable subscription asks for has no selector that is refused
  pub chosen : (client : Option (List ℕ)) (name : List ℕ) (d : Definition) → durable_definition state (Durable client name) ≡ Some d → selector_refusal d.selector ≡ None
  chosen client name d e = go (station_of (Durable client name) state.stations) refl e
    where
      go : (o : Option Station) → station_of (Durable client name) state.stations ≡ o → definition_of o ≡ Some d → selector_refusal d.selector ≡ None
      go None is f = cc
      go (Some x) is f = let same : x.definition ≡ d = cc in subst (λ (y : Definition). selector_refusal y.selector ≡ None) same (station_there (Durable client name) state.stations x h.stations is).selector

-- ---- counts

pub counted : (o : Option StoredRow) (n : ℕ) → Some n ≡ count_of o → (r : StoredRow) × (o ≡ Some r)
counted None n e = cc
counted (Some r) n e = (r, refl)

pub uncounted : (o : Option StoredRow) → None ≡ count_of o → o ≡ None
uncounted None e = refl
uncounted (Some r) e = cc
