-- What a publication gains of what is stored.
use Rattle.std.proofs.Common.{◌≡◌, ℕ, Bool, true, false, cond, List, [], ◌∷◌, ◌++◌, map, length, refl, sym, ◌∙◌, ap, Option, Some, None, arith, subst}
use Rattle.std.specs.Prelude.{◌==◌}
use Rattle.std.proofs.lemmas.Bool.Decides.{nat_tests}
use Rattle.jm_dest.specs.declared.destination.Destination.{Destination}
use Rattle.jm_dest.specs.declared.destination.Destination.TheVariants.{Queue as ToQueue, Topic as ToTopic}
use Rattle.jm_dest.specs.declared.key.Key.{Key}
use Rattle.jm_dest.specs.declared.key.Key.TheVariants.{Queue, Own, SharedOwn, Durable}
use Rattle.jm_dest.specs.declared.session.SessionId.{SessionId}
use Rattle.jm_dest.specs.Keys.{key_eq}
use Rattle.jm_header.specs.declared.content.Content.{Content}
use Rattle.jm_machine.specs.declared.state.PlacedRow.{PlacedRow}
use Rattle.jm_machine.specs.declared.state.Row.{Row}
use Rattle.jm_machine.specs.declared.state.Station.{Station}
use Rattle.jm_machine.specs.Rows.{InOrder, fresh}
use Rattle.jm_machine.specs.Machine.{State, Publisher, publisher_of, accepts, is_full, brought, offered, queued, one_missed, with_rows, with_message, settled, settled_rows, station_of, definition_of}
use Rattle.jm_machine.specs.Wants.{placed_rows}
use Rattle.jm_machine.specs.Reopened.{is_durable}
use Rattle.jm_machine.specs.Under.{is_accepted, is_for, is_persistent, lasts_at, placed_under}
use Rattle.jm_machine.proofs.Keys.{key_same}
use Rattle.jm_keep.specs.Persisted.{shown, row_at, StoredRow, stored_row, if_stored, is_lasting}
use Rattle.jm_keep.specs.Leads.{StoresTheSame}
use Rattle.jm_keep.specs.Steps.{StandsInOrder, PublishGains}
use Rattle.jm_keep_law.proofs.Received.{found_in_order}

-- ---- rows

-- no row stands at the next place
next_free : (n : ℕ) (rows : List PlacedRow) → InOrder n rows → row_at n rows ≡ None
next_free n [] h = refl
next_free n (x ∷ rows) h = let i = h.0 in grind (arith, nat_tests, next_free n rows h.2)

-- a row that came last stands at its place
row_at-last : (n : ℕ) (r : Row) (rows : List PlacedRow) → row_at n rows ≡ None → row_at n (rows ++ record { place = n; row = r } ∷ []) ≡ Some r
row_at-last n r [] e = ap (λ c. cond c (Some r) None) same
  where
    same : (n == n) ≡ true
    same = grind (arith, nat_tests)
row_at-last n r (x ∷ rows) e = go (x.place == n) refl (row_at-last n r rows)
  where
    go : (b : Bool) → (x.place == n) ≡ b → (row_at n rows ≡ None → row_at n (rows ++ record { place = n; row = r } ∷ []) ≡ Some r) → cond (x.place == n) (Some x.row) (row_at n (rows ++ record { place = n; row = r } ∷ [])) ≡ Some r
    go true f s = absurd (let some : Some x.row ≡ None = sym (ap (λ c. cond c (Some x.row) (row_at n rows)) f) ∙ e in cc)
    go false f s = ap (λ c. cond c (Some x.row) (row_at n (rows ++ record { place = n; row = r } ∷ []))) f ∙ s (sym (ap (λ c. cond c (Some x.row) (row_at n rows)) f) ∙ e)

-- and all others stand where they stood
row_at-before : (n p : ℕ) (r : Row) → (n == p) ≡ false → (rows : List PlacedRow) → row_at p (rows ++ record { place = n; row = r } ∷ []) ≡ row_at p rows
row_at-before n p r e [] = ap (λ c. cond c (Some r) None) e
row_at-before n p r e (x ∷ rows) = ap (λ o. cond (x.place == p) (Some x.row) o) (row_at-before n p r e rows)

-- the rows, and where the message comes its row
abbrev joined : Bool → ℕ → Content → List PlacedRow → List PlacedRow
joined b n m rows = cond b (rows ++ record { place = n; row = fresh m } ∷ []) rows

-- ---- stations

key_kept : (limit : ℕ) (publisher : Publisher) (m : Content) (n : ℕ) (x : Station) → (offered limit publisher m n x).key ≡ x.key
key_kept limit publisher m n x = go (accepts x.key x.definition publisher m)
  where
    full : (b : Bool) → (cond b (record { key = x.key; definition = x.definition; missed = one_missed x.missed; rows = x.rows }) (with_rows (λ rows. rows ++ record { place = n; row = fresh m } ∷ []) x)).key ≡ x.key
    full true = refl
    full false = refl

    go : (b : Bool) → (cond b (brought limit m n x) x).key ≡ x.key
    go true = full (is_full limit x.key (length x.rows))
    go false = refl

definition_is : (limit : ℕ) (publisher : Publisher) (m : Content) (n : ℕ) (x : Station) → (offered limit publisher m n x).definition ≡ x.definition
definition_is limit publisher m n x = go (accepts x.key x.definition publisher m)
  where
    full : (b : Bool) → (cond b (record { key = x.key; definition = x.definition; missed = one_missed x.missed; rows = x.rows }) (with_rows (λ rows. rows ++ record { place = n; row = fresh m } ∷ []) x)).definition ≡ x.definition
    full true = refl
    full false = refl

    go : (b : Bool) → (cond b (brought limit m n x) x).definition ≡ x.definition
    go true = full (is_full limit x.key (length x.rows))
    go false = refl

rows_are : (limit : ℕ) (publisher : Publisher) (m : Content) (n : ℕ) (x : Station) (client : Option (List ℕ)) (name : List ℕ) → x.key ≡ Durable client name → (offered limit publisher m n x).rows ≡ joined (accepts x.key x.definition publisher m) n m x.rows
rows_are limit publisher m n x client name e = go (accepts x.key x.definition publisher m)
  where
    full : (b : Bool) → b ≡ false → (cond b (record { key = x.key; definition = x.definition; missed = one_missed x.missed; rows = x.rows }) (with_rows (λ rows. rows ++ record { place = n; row = fresh m } ∷ []) x)).rows ≡ x.rows ++ record { place = n; row = fresh m } ∷ []
    full true h = cc
    full false h = refl

    go : (b : Bool) → (cond b (brought limit m n x) x).rows ≡ joined b n m x.rows
    go true = full (is_full limit x.key (length x.rows)) (ap (λ k. is_full limit k (length x.rows)) e)
    go false = refl

definition_kept : (limit : ℕ) (publisher : Publisher) (m : Content) (n : ℕ) (key : Key) (stations : List Station) → definition_of (station_of key (map (offered limit publisher m n) stations)) ≡ definition_of (station_of key stations)
definition_kept limit publisher m n key [] = refl
definition_kept limit publisher m n key (x ∷ stations) =
    ap (λ k. definition_of (cond (key_eq k key) (Some (offered limit publisher m n x)) (station_of key (map (offered limit publisher m n) stations)))) (key_kept limit publisher m n x)
    ∙ go (key_eq x.key key) (definition_kept limit publisher m n key stations)
  where
    go : (b : Bool) → definition_of (station_of key (map (offered limit publisher m n) stations)) ≡ definition_of (station_of key stations)
        → definition_of (cond b (Some (offered limit publisher m n x)) (station_of key (map (offered limit publisher m n) stations))) ≡ definition_of (cond b (Some x) (station_of key stations))
    go true r = ap (λ d. Some d) (definition_is limit publisher m n x)
    go false r = r

rows_come : (limit : ℕ) (publisher : Publisher) (m : Content) (n : ℕ) (client : Option (List ℕ)) (name : List ℕ) (stations : List Station) →
    placed_rows (station_of (Durable client name) (map (offered limit publisher m n) stations)) ≡ joined (is_accepted publisher m (station_of (Durable client name) stations)) n m (placed_rows (station_of (Durable client name) stations))
rows_come limit publisher m n client name [] = refl
rows_come limit publisher m n client name (x ∷ stations) =
    ap (λ k. placed_rows (cond (key_eq k (Durable client name)) (Some (offered limit publisher m n x)) (station_of (Durable client name) (map (offered limit publisher m n) stations)))) (key_kept limit publisher m n x)
    ∙ go (key_eq x.key (Durable client name)) refl (rows_come limit publisher m n client name stations)
  where
    go : (b : Bool) → key_eq x.key (Durable client name) ≡ b
        → placed_rows (station_of (Durable client name) (map (offered limit publisher m n) stations)) ≡ joined (is_accepted publisher m (station_of (Durable client name) stations)) n m (placed_rows (station_of (Durable client name) stations))
        → placed_rows (cond b (Some (offered limit publisher m n x)) (station_of (Durable client name) (map (offered limit publisher m n) stations)))
        ≡ joined (is_accepted publisher m (cond b (Some x) (station_of (Durable client name) stations))) n m (placed_rows (cond b (Some x) (station_of (Durable client name) stations)))
    go true e r = rows_are limit publisher m n x client name (key_same x.key (Durable client name) e)
    go false e r = r

-- ---- the state

queue_come : (d : Destination) (m : Content) (n : ℕ) (queues : List ℕ → List PlacedRow) (name : List ℕ) → queued d m n queues name ≡ joined (is_for name d) n m (queues name)
queue_come (ToQueue d) m n queues name = refl
queue_come (ToTopic d) m n queues name = refl

under_new : (state : State) (m : Content) (key : Key) → is_lasting key ≡ true → placed_under (with_message state m) key ≡ joined (lasts_at state m key) state.next_place m (placed_under state key)
under_new state m (Queue name) l = queue_come m.destination m state.next_place state.queues name
under_new state m (Own s c) l = cc
under_new state m (SharedOwn client name) l = cc
under_new state m (Durable client name) l = rows_come state.limit (publisher_of state.life m) m state.next_place client name state.stations

pub under_in_order : (state : State) → StandsInOrder state → (key : Key) → InOrder state.next_place (placed_under state key)
under_in_order state o (Queue name) = o.queues name
under_in_order state o (Own s c) = found_in_order state.next_place (Own s c) state.stations o.stations
under_in_order state o (SharedOwn client name) = found_in_order state.next_place (SharedOwn client name) state.stations o.stations
under_in_order state o (Durable client name) = found_in_order state.next_place (Durable client name) state.stations o.stations

-- a stored row, where rows under its key are stored
abbrev pub if_lasts : Bool → Option StoredRow → Option StoredRow
if_lasts b o = cond b o None

free : (state : State) → StandsInOrder state → (key : Key) → stored_row state key state.next_place ≡ None
free state o key = ap (λ r. if_lasts (is_lasting key) (if_stored r)) (next_free state.next_place (placed_under state key) (under_in_order state o key)) ∙ go (is_lasting key)
  where
    go : (b : Bool) → if_lasts b None ≡ None
    go true = refl
    go false = refl

takes_lasting : (state : State) (m : Content) (key : Key) → lasts_at state m key ≡ true → is_lasting key ≡ true
takes_lasting state m (Queue name) e = refl
takes_lasting state m (Own s c) e = cc
takes_lasting state m (SharedOwn client name) e = cc
takes_lasting state m (Durable client name) e = refl

comes : (state : State) (m : Content) → StandsInOrder state → is_persistent m.mode ≡ true → (key : Key) → lasts_at state m key ≡ true → stored_row (with_message state m) key state.next_place ≡ Some (shown (fresh m))
comes state m o p key t =
    let l : is_lasting key ≡ true = takes_lasting state m key t in
    ap (λ b. if_lasts b (if_stored (row_at state.next_place (placed_under (with_message state m) key)))) l
    ∙ ap (λ rows. if_stored (row_at state.next_place rows)) (under_new state m key l ∙ ap (λ b. joined b state.next_place m (placed_under state key)) t)
    ∙ ap if_stored (row_at-last state.next_place (fresh m) (placed_under state key) (next_free state.next_place (placed_under state key) (under_in_order state o key)))
    ∙ ap (λ b. cond b (Some (shown (fresh m))) None) p

-- where it does not come, or at another place, the same is stored
as_before : (state : State) (m : Content) (key : Key) (place : ℕ) → ((b : Bool) → lasts_at state m key ≡ b → row_at place (joined b state.next_place m (placed_under state key)) ≡ row_at place (placed_under state key)) → stored_row (with_message state m) key place ≡ stored_row state key place
as_before state m key place h = go (is_lasting key) refl
  where
    go : (b : Bool) → is_lasting key ≡ b → if_lasts b (if_stored (row_at place (placed_under (with_message state m) key))) ≡ if_lasts b (if_stored (row_at place (placed_under state key)))
    go true l = ap (λ rows. if_stored (row_at place rows)) (under_new state m key l) ∙ ap if_stored (h (lasts_at state m key) refl)
    go false l = refl

untaken : (state : State) (m : Content) (key : Key) (place : ℕ) → lasts_at state m key ≡ false → stored_row (with_message state m) key place ≡ stored_row state key place
untaken state m key place t = as_before state m key place go
  where
    go : (b : Bool) → lasts_at state m key ≡ b → row_at place (joined b state.next_place m (placed_under state key)) ≡ row_at place (placed_under state key)
    go true e = cc
    go false e = refl

elsewhere : (state : State) (m : Content) (key : Key) (place : ℕ) → (state.next_place == place) ≡ false → stored_row (with_message state m) key place ≡ stored_row state key place
elsewhere state m key place f = as_before state m key place go
  where
    go : (b : Bool) → lasts_at state m key ≡ b → row_at place (joined b state.next_place m (placed_under state key)) ≡ row_at place (placed_under state key)
    go true e = row_at-before state.next_place place (fresh m) f (placed_under state key)
    go false e = refl

pub publish_gains : PublishGains
publish_gains state m keys one o p takers t = record {
  definitions = λ key. ap (λ d. cond (is_durable key) d None) (definition_kept state.limit (publisher_of state.life m) m state.next_place key state.stations);
  new_place = λ key. free state o key;
  come = λ key e. comes state m o p key (sym (takers key) ∙ e);
  absent = λ key e. untaken state m key state.next_place (sym (takers key) ∙ e) ∙ free state o key;
  others = λ key place e. elsewhere state m key place e;
  some_key = one;
  is_there = takers one ∙ t;
}

-- ---- a message of which nothing is stored

-- it is not PERSISTENT
pub unstored : (state : State) (m : Content) → StandsInOrder state → is_persistent m.mode ≡ false → StoresTheSame state (with_message state m)
unstored state m o p = record {
  definitions = λ key. ap (λ d. cond (is_durable key) d None) (definition_kept state.limit (publisher_of state.life m) m state.next_place key state.stations);
  rows = λ key place. go key place (state.next_place == place) refl;
}
  where
    here : (key : Key) (b : Bool) → lasts_at state m key ≡ b → stored_row (with_message state m) key state.next_place ≡ stored_row state key state.next_place
    here key false t = untaken state m key state.next_place t
    here key true t = let l : is_lasting key ≡ true = takes_lasting state m key t in
        ap (λ b. if_lasts b (if_stored (row_at state.next_place (placed_under (with_message state m) key)))) l
        ∙ ap (λ rows. if_stored (row_at state.next_place rows)) (under_new state m key l ∙ ap (λ b. joined b state.next_place m (placed_under state key)) t)
        ∙ ap if_stored (row_at-last state.next_place (fresh m) (placed_under state key) (next_free state.next_place (placed_under state key) (under_in_order state o key)))
        ∙ ap (λ b. cond b (Some (shown (fresh m))) None) p
        ∙ sym (free state o key)

    go : (key : Key) (place : ℕ) (b : Bool) → (state.next_place == place) ≡ b → stored_row (with_message state m) key place ≡ stored_row state key place
    go key place true e = let same : state.next_place ≡ place = grind (arith, nat_tests) in
        subst (λ q. stored_row (with_message state m) key q ≡ stored_row state key q) same (here key (lasts_at state m key) refl)
    go key place false e = elsewhere state m key place e

-- no key lasts_at it
pub taken_nowhere : (state : State) (m : Content) → ((key : Key) → lasts_at state m key ≡ false) → StoresTheSame state (with_message state m)
taken_nowhere state m t = record {
  definitions = λ key. ap (λ d. cond (is_durable key) d None) (definition_kept state.limit (publisher_of state.life m) m state.next_place key state.stations);
  rows = λ key place. untaken state m key place (t key);
}

-- ---- which keys take a message is as before another, and as before a settling

accepted_after : (limit : ℕ) (publisher : Publisher) (new : Content) (n : ℕ) (by : Publisher) (m : Content) (key : Key) (stations : List Station) → is_accepted by m (station_of key (map (offered limit publisher new n) stations)) ≡ is_accepted by m (station_of key stations)
accepted_after limit publisher new n by m key [] = refl
accepted_after limit publisher new n by m key (x ∷ stations) =
    ap (λ k. is_accepted by m (cond (key_eq k key) (Some (offered limit publisher new n x)) (station_of key (map (offered limit publisher new n) stations)))) (key_kept limit publisher new n x)
    ∙ go (key_eq x.key key) (accepted_after limit publisher new n by m key stations)
  where
    go : (b : Bool) → is_accepted by m (station_of key (map (offered limit publisher new n) stations)) ≡ is_accepted by m (station_of key stations)
        → is_accepted by m (cond b (Some (offered limit publisher new n x)) (station_of key (map (offered limit publisher new n) stations))) ≡ is_accepted by m (cond b (Some x) (station_of key stations))
    go true r = ap (λ k. accepts k (offered limit publisher new n x).definition by m) (key_kept limit publisher new n x) ∙ ap (λ d. accepts x.key d by m) (definition_is limit publisher new n x)
    go false r = r

pub takes_after : (state : State) (new m : Content) (key : Key) → lasts_at (with_message state new) m key ≡ lasts_at state m key
takes_after state new m (Queue name) = refl
takes_after state new m (Own s c) = refl
takes_after state new m (SharedOwn client name) = refl
takes_after state new m (Durable client name) = accepted_after state.limit (publisher_of state.life new) new state.next_place (publisher_of state.life m) m (Durable client name) state.stations

accepted_settled : (f : List PlacedRow → List PlacedRow) (by : Publisher) (m : Content) (key : Key) (stations : List Station) → is_accepted by m (station_of key (map (with_rows f) stations)) ≡ is_accepted by m (station_of key stations)
accepted_settled f by m key [] = refl
accepted_settled f by m key (x ∷ stations) = go (key_eq x.key key) (accepted_settled f by m key stations)
  where
    go : (b : Bool) → is_accepted by m (station_of key (map (with_rows f) stations)) ≡ is_accepted by m (station_of key stations)
        → is_accepted by m (cond b (Some (with_rows f x)) (station_of key (map (with_rows f) stations))) ≡ is_accepted by m (cond b (Some x) (station_of key stations))
    go true r = refl
    go false r = r

pub takes_settled : (p : SessionId → ℕ → Bool) (state : State) (m : Content) (key : Key) → lasts_at (settled p state) m key ≡ lasts_at state m key
takes_settled p state m (Queue name) = refl
takes_settled p state m (Own s c) = refl
takes_settled p state m (SharedOwn client name) = refl
takes_settled p state m (Durable client name) = accepted_settled (settled_rows p) (publisher_of state.life m) m (Durable client name) state.stations
