-- What is stored after a durable subscription is deleted, and after one is put in its place.
use Rattle.std.proofs.Common.{◌≡◌, ℕ, Bool, true, false, cond, List, [], ◌∷◌, ◌++◌, refl, sym, subst, ◌∙◌, ap, Option, Some, None}
use Rattle.std.specs.Prelude.{not, is_some, ◌&&◌}
use Rattle.jm_dest.specs.declared.key.Key.{Key}
use Rattle.jm_dest.specs.declared.key.Key.TheVariants.{Queue, Own, SharedOwn, Durable}
use Rattle.jm_dest.specs.Keys.{key_eq}
use Rattle.jm_machine.specs.declared.state.Definition.{Definition}
use Rattle.jm_machine.specs.declared.state.Row.{Row}
use Rattle.jm_machine.specs.declared.state.Station.{Station}
use Rattle.jm_machine.specs.Machine.{State, station_of, definition_of, without, at_key, with_rows, deleted, put}
use Rattle.jm_machine.specs.Wants.{placed_rows}
use Rattle.jm_machine.specs.Reopened.{is_durable}
use Rattle.jm_machine.specs.Under.{is_persistent, placed_under}
use Rattle.jm_machine.proofs.Keys.{key_same, key_refl}
use Rattle.jm_keep.specs.declared.change.RowChange.TheVariants.{DropStation, PutStation}
use Rattle.jm_keep.specs.Stored.{definition_after}
use Rattle.jm_keep.specs.Persisted.{shown, row_at, StoredRow, stored_row, if_stored, durable_definition, is_lasting, LeadsTo}
use Rattle.jm_keep.specs.Leads.{drops, Loses}
use Rattle.jm_keep.specs.Steps.{passes, AreGone, all_under, DeleteLeads, PutLeads}
use Rattle.jm_keep_law.proofs.Gone.{loses_gone}
use Rattle.jm_keep_law.proofs.Leads.{chain, drops_lead, station_leads}
use Rattle.jm_keep_law.proofs.Received.{found_other, found_own, definition_kept}

-- ---- stations

-- what stands under another key is as before
pub without_other : (k key : Key) (stations : List Station) → key_eq k key ≡ false → station_of key (without k stations) ≡ station_of key stations
without_other k key [] e = refl
without_other k key (x ∷ stations) e = go (key_eq x.key k) refl (without_other k key stations e)
  where
    differs : key_eq x.key k ≡ true → key_eq x.key key ≡ false
    differs d = ap (λ t. key_eq t key) (key_same x.key k d) ∙ e

    go : (b : Bool) → key_eq x.key k ≡ b → station_of key (without k stations) ≡ station_of key stations
        → station_of key (cond (not b) (x ∷ without k stations) (without k stations)) ≡ cond (key_eq x.key key) (Some x) (station_of key stations)
    go true d r = r ∙ sym (ap (λ c. cond c (Some x) (station_of key stations)) (differs d))
    go false d r = ap (λ o. cond (key_eq x.key key) (Some x) o) r

-- under the key nothing stands
pub without_own : (k : Key) (stations : List Station) → station_of k (without k stations) ≡ None
without_own k [] = refl
without_own k (x ∷ stations) = go (key_eq x.key k) refl (without_own k stations)
  where
    go : (b : Bool) → key_eq x.key k ≡ b → station_of k (without k stations) ≡ None → station_of k (cond (not b) (x ∷ without k stations) (without k stations)) ≡ None
    go true d r = r
    go false d r = ap (λ c. cond c (Some x) (station_of k (without k stations))) d ∙ r

-- one more station is found last
found_last : (key : Key) (s : Station) (stations : List Station) → station_of key stations ≡ None → station_of key (stations ++ s ∷ []) ≡ cond (key_eq s.key key) (Some s) None
found_last key s [] e = refl
found_last key s (x ∷ stations) e = go (key_eq x.key key) refl (found_last key s stations)
  where
    go : (b : Bool) → key_eq x.key key ≡ b → (station_of key stations ≡ None → station_of key (stations ++ s ∷ []) ≡ cond (key_eq s.key key) (Some s) None) → cond (key_eq x.key key) (Some x) (station_of key (stations ++ s ∷ [])) ≡ cond (key_eq s.key key) (Some s) None
    go true d r = absurd (let some : Some x ≡ None = sym (ap (λ c. cond c (Some x) (station_of key stations)) d) ∙ e in cc)
    go false d r = ap (λ c. cond c (Some x) (station_of key (stations ++ s ∷ []))) d ∙ r (sym (ap (λ c. cond c (Some x) (station_of key stations)) d) ∙ e)

pub found_before : (key : Key) (s : Station) (stations : List Station) → key_eq s.key key ≡ false → station_of key (stations ++ s ∷ []) ≡ station_of key stations
found_before key s [] e = ap (λ c. cond c (Some s) None) e
found_before key s (x ∷ stations) e = ap (λ o. cond (key_eq x.key key) (Some x) o) (found_before key s stations e)

-- ---- a subscription is put

rows_put : (state : State) (k : Key) (d : Definition) (key : Key) → placed_rows (station_of key (put k d state).stations) ≡ placed_rows (station_of key (deleted k state).stations)
rows_put state k d key = go (key_eq k key) refl
  where
    new : Station
    new = record { key = k; definition = d; missed = 0; rows = [] }

    own : k ≡ key → placed_rows (station_of key (without k state.stations ++ new ∷ [])) ≡ placed_rows (station_of key (without k state.stations))
    own e = subst (λ t. placed_rows (station_of t (without k state.stations ++ new ∷ [])) ≡ placed_rows (station_of t (without k state.stations))) e
        (ap placed_rows (found_last k new (without k state.stations) (without_own k state.stations)) ∙ empty (key_eq k k) ∙ sym (ap placed_rows (without_own k state.stations)))
      where
        empty : (b : Bool) → placed_rows (cond b (Some (record { key = k; definition = d; missed = 0; rows = [] })) None) ≡ []
        empty true = refl
        empty false = refl

    go : (b : Bool) → key_eq k key ≡ b → placed_rows (station_of key (without k state.stations ++ new ∷ [])) ≡ placed_rows (station_of key (without k state.stations))
    go true e = own (key_same k key e)
    go false e = ap placed_rows (found_before key new (without k state.stations) e)

definition_put : (state : State) (k : Key) (d : Definition) (key : Key) → definition_of (station_of key (put k d state).stations) ≡ cond (key_eq k key) (Some d) (definition_of (station_of key (deleted k state).stations))
definition_put state k d key = go (key_eq k key) refl
  where
    new : Station
    new = record { key = k; definition = d; missed = 0; rows = [] }

    go : (b : Bool) → key_eq k key ≡ b → definition_of (station_of key (without k state.stations ++ new ∷ [])) ≡ cond b (Some d) (definition_of (station_of key (without k state.stations)))
    go true e = subst (λ t. definition_of (station_of t (without k state.stations ++ new ∷ [])) ≡ Some d) (key_same k key e)
        (ap definition_of (found_last k new (without k state.stations) (without_own k state.stations)) ∙ ap (λ c. definition_of (cond c (Some new) None)) (key_refl k))
    go false e = ap definition_of (found_before key new (without k state.stations) e)

stored_put : (state : State) (k : Key) (d : Definition) (key : Key) (place : ℕ) → stored_row (put k d state) key place ≡ stored_row (deleted k state) key place
stored_put state k d (Queue name) place = refl
stored_put state k d (Own s c) place = refl
stored_put state k d (SharedOwn client name) place = refl
stored_put state k d (Durable client name) place = ap (λ rows. if_stored (row_at place rows)) (rows_put state k d (Durable client name))

durable_put : (state : State) (client : Option (List ℕ)) (name : List ℕ) (d : Definition) (key : Key) → durable_definition (put (Durable client name) d state) key ≡ definition_after key (durable_definition (deleted (Durable client name) state) key) (PutStation (Durable client name) (Some d))
durable_put state client name d (Queue n) = refl
durable_put state client name d (Own s c) = refl
durable_put state client name d (SharedOwn c n) = refl
durable_put state client name d (Durable c n) = definition_put state (Durable client name) d (Durable c n)

pub put_leads : PutLeads
put_leads state client name d = (station_leads (deleted (Durable client name) state) (put (Durable client name) d state) (Durable client name) (Some d)).1 (record {
  definitions = durable_put state client name d;
  rows = stored_put state (Durable client name) d;
})

-- ---- a subscription is deleted

-- the subscription without its rows
pub emptied : Key → State → State
emptied k state = record state { stations = at_key k (with_rows (λ rows. [])) state.stations }

rows_emptied : (state : State) (k key : Key) → placed_rows (station_of key (deleted k state).stations) ≡ placed_rows (station_of key (emptied k state).stations)
unfolding emptied
rows_emptied state k key = go (key_eq k key) refl
  where
    go : (b : Bool) → key_eq k key ≡ b → placed_rows (station_of key (without k state.stations)) ≡ placed_rows (station_of key (at_key k (with_rows (λ rows. [])) state.stations))
    go true e = subst (λ t. placed_rows (station_of t (without k state.stations)) ≡ placed_rows (station_of t (at_key k (with_rows (λ rows. [])) state.stations))) (key_same k key e)
        (ap placed_rows (without_own k state.stations) ∙ sym (found_own k (λ rows. []) refl state.stations))
    go false e = ap placed_rows (without_other k key state.stations e ∙ sym (found_other k key (λ rows. []) state.stations e))

stored_emptied : (state : State) (k key : Key) (place : ℕ) → stored_row (deleted k state) key place ≡ stored_row (emptied k state) key place
unfolding emptied
stored_emptied state k (Queue name) place = refl
stored_emptied state k (Own s c) place = refl
stored_emptied state k (SharedOwn client name) place = refl
stored_emptied state k (Durable client name) place = ap (λ rows. if_stored (row_at place rows)) (rows_emptied state k (Durable client name))

-- what is stored of the key goes, and nothing else
stored_deleted : (state : State) (client : Option (List ℕ)) (name : List ℕ) (key : Key) (place : ℕ) → stored_row (deleted (Durable client name) state) key place ≡ cond (key_eq (Durable client name) key && is_some (stored_row state key place)) None (stored_row state key place)
stored_deleted state client name key place = go (key_eq (Durable client name) key) refl
  where
    k : Key
    k = Durable client name

    nothing : (o : Option StoredRow) → None ≡ cond (is_some o) None o
    nothing None = refl
    nothing (Some r) = refl

    other : (key : Key) → key_eq (Durable client name) key ≡ false → stored_row (deleted (Durable client name) state) key place ≡ stored_row state key place
    other (Queue n) e = refl
    other (Own s c) e = refl
    other (SharedOwn c n) e = refl
    other (Durable c n) e = ap (λ x. if_stored (row_at place (placed_rows x))) (without_other (Durable client name) (Durable c n) state.stations e)

    go : (b : Bool) → key_eq (Durable client name) key ≡ b → stored_row (deleted (Durable client name) state) key place ≡ cond (b && is_some (stored_row state key place)) None (stored_row state key place)
    go true e = subst (λ t. stored_row (deleted (Durable client name) state) t place ≡ cond (is_some (stored_row state t place)) None (stored_row state t place)) (key_same (Durable client name) key e)
        (ap (λ x. if_stored (row_at place (placed_rows x))) (without_own (Durable client name) state.stations) ∙ nothing (stored_row state (Durable client name) place))
    go false e = other key e

-- all that is stored under the key goes
all_go : (b l : Bool) (o : Option Row) → (b && is_some (cond l (if_stored o) None)) ≡ (l && passes (λ r. b) o)
all_go true true None = refl
all_go true true (Some r) = go (is_persistent r.message.mode)
  where
    go : (c : Bool) → is_some (cond c (Some (shown r)) None) ≡ (c && true)
    go true = refl
    go false = refl
all_go true false o = refl
all_go false true None = refl
all_go false true (Some r) = go (is_persistent r.message.mode)
  where
    go : (c : Bool) → false ≡ (c && false)
    go true = refl
    go false = refl
all_go false false o = refl

loses : (state : State) (client : Option (List ℕ)) (name : List ℕ) (rows : List (Key × ℕ)) (delays places : List ℕ) → AreGone (all_under (Durable client name)) state rows delays places → Loses state (emptied (Durable client name) state) rows delays places
unfolding emptied
loses state client name rows delays places a =
    loses_gone (all_under (Durable client name)) state (emptied (Durable client name) state) rows delays places
    (λ key. ap (λ d. cond (is_durable key) d None) (definition_kept (Durable client name) key (λ rows. []) state.stations))
    (λ key place. sym (stored_emptied state (Durable client name) key place) ∙ stored_deleted state client name key place
    ∙ ap (λ b. cond b None (stored_row state key place)) (all_go (key_eq (Durable client name) key) (is_lasting key) (row_at place (placed_under state key))))
    a

definition_deleted : (state : State) (client : Option (List ℕ)) (name : List ℕ) (key : Key) → durable_definition (deleted (Durable client name) state) key ≡ definition_after key (durable_definition (emptied (Durable client name) state) key) (DropStation (Durable client name))
unfolding emptied
definition_deleted state client name (Queue n) = refl
definition_deleted state client name (Own s c) = refl
definition_deleted state client name (SharedOwn c n) = refl
definition_deleted state client name (Durable c n) = go (key_eq (Durable client name) (Durable c n)) refl
  where
    go : (b : Bool) → key_eq (Durable client name) (Durable c n) ≡ b → definition_of (station_of (Durable c n) (without (Durable client name) state.stations)) ≡ cond b None (definition_of (station_of (Durable c n) (at_key (Durable client name) (with_rows (λ rows. [])) state.stations)))
    go true e = subst (λ t. definition_of (station_of t (without (Durable client name) state.stations)) ≡ None) (key_same (Durable client name) (Durable c n) e) (ap definition_of (without_own (Durable client name) state.stations))
    go false e = ap definition_of (without_other (Durable client name) (Durable c n) state.stations e) ∙ sym (definition_kept (Durable client name) (Durable c n) (λ rows. []) state.stations)

-- first the rows go
pub empties : (state : State) (client : Option (List ℕ)) (name : List ℕ) (rows : List (Key × ℕ)) (delays places : List ℕ) → AreGone (all_under (Durable client name)) state rows delays places → LeadsTo state (emptied (Durable client name) state) (drops rows delays places)
empties state client name rows delays places a = drops_lead state (emptied (Durable client name) state) rows delays places (loses state client name rows delays places a)

-- then the subscription
pub ends : (state : State) (client : Option (List ℕ)) (name : List ℕ) → LeadsTo (emptied (Durable client name) state) (deleted (Durable client name) state) (DropStation (Durable client name) ∷ [])
ends state client name = (station_leads (emptied (Durable client name) state) (deleted (Durable client name) state) (Durable client name) None).0 (record {
  definitions = definition_deleted state client name;
  rows = λ key place. stored_emptied state (Durable client name) key place;
})

pub delete_leads : DeleteLeads
delete_leads state client name rows delays places a =
    chain state (emptied (Durable client name) state) (deleted (Durable client name) state) (drops rows delays places) (DropStation (Durable client name) ∷ [])
    (empties state client name rows delays places a) (ends state client name)
