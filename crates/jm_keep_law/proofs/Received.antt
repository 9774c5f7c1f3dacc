-- What a delivery that settles at once loses of what is stored.
use Rattle.std.proofs.Common.{◌≡◌, ℕ, Bool, true, false, cond, List, [], ◌∷◌, refl, sym, subst, ◌∙◌, ap, Option, Some, None}
use Rattle.std.specs.Prelude.{◌&&◌, ◌||◌, not}
use Rattle.jm_dest.specs.declared.key.Key.{Key}
use Rattle.jm_dest.specs.declared.key.Key.TheVariants.{Queue, Own, SharedOwn, Durable}
use Rattle.jm_dest.specs.Names.{text_eq}
use Rattle.jm_dest.specs.Keys.{key_eq}
use Rattle.jm_header.specs.declared.content.Content.{Content}
use Rattle.jm_machine.specs.declared.state.PlacedRow.{PlacedRow}
use Rattle.jm_machine.specs.declared.state.Row.{Row}
use Rattle.jm_machine.specs.declared.state.Station.{Station}
use Rattle.jm_machine.specs.Rows.{has_lapsed, InOrder, live_placed, live, bare, is_next, is_next_chosen, deliver_placed, deliver_chosen}
use Rattle.jm_machine.specs.Machine.{State, AllInOrder, receive, station_of, definition_of, at_key, at_queue_of, with_rows}
use Rattle.jm_machine.specs.Wants.{next_placed, next_chosen, placed_rows}
use Rattle.jm_machine.specs.Reopened.{is_durable}
use Rattle.jm_machine.specs.Under.{is_persistent, next_under, placed_under}
use Rattle.jm_machine.proofs.Keys.{key_same, key_refl}
use Rattle.jm_keep.specs.Persisted.{shown, row_at, stored_row, if_stored, is_lasting}
use Rattle.jm_keep.specs.Steps.{StandsInOrder, is_place_of, passes, taken_under, ReceiveLoses}
use Rattle.jm_keep_law.proofs.Gone.{under_key, loses_gone}
use Rattle.jm_keep_law.proofs.Placed.{if_passes, row_at-filter, row_at-gone, order_filter}

-- ---- rows

-- a row that there may be is stored, and goes in a delivery that settles at once
abbrev taken : ℕ → Option PlacedRow → ℕ → Row → Bool
taken now next place r = has_lapsed now r || is_place_of next place

abbrev is_lost : ℕ → Option PlacedRow → ℕ → Option Row → Bool
is_lost now next place o = passes (taken now next place) o

-- the row at a place that a delivery leaves, and is stored
left_stored : (now place : ℕ) (next : Option PlacedRow) (o : Option Row) → if_stored (cond (is_place_of next place) None (if_passes (λ r. not (has_lapsed now r)) o)) ≡ cond (is_lost now next place o) None (if_stored o)
left_stored now place next None = go (is_place_of next place)
  where
    go : (b : Bool) → if_stored (cond b None None) ≡ None
    go true = refl
    go false = refl
left_stored now place next (Some r) = go (is_place_of next place) (has_lapsed now r) (is_persistent r.message.mode) refl
  where
    go : (a l p : Bool) → is_persistent r.message.mode ≡ p → if_stored (cond a None (cond (not l) (Some r) None)) ≡ cond (p && (l || a)) None (cond p (Some (shown r)) None)
    go true true true e = refl
    go true false true e = refl
    go false true true e = refl
    go false false true e = ap (λ d. cond d (Some (shown r)) None) e
    go true true false e = refl
    go true false false e = refl
    go false true false e = refl
    go false false false e = ap (λ d. cond d (Some (shown r)) None) e

placed_left : (n now place : ℕ) (rows : List PlacedRow) → InOrder n rows → if_stored (row_at place (deliver_placed now (λ r. []) rows)) ≡ cond (is_lost now (next_placed now rows) place (row_at place rows)) None (if_stored (row_at place rows))
placed_left n now place rows h =
    ap if_stored (row_at-gone n place (is_next now (live now (bare rows))) (live_placed now rows) (order_filter n _ rows h)
    ∙ ap (λ o. cond (is_place_of (next_placed now rows) place) None o) (row_at-filter n place (λ r. not (has_lapsed now r)) rows h))
    ∙ left_stored now place (next_placed now rows) (row_at place rows)

chosen_left : (p : Content → Bool) (n now place : ℕ) (rows : List PlacedRow) → InOrder n rows → if_stored (row_at place (deliver_chosen p now (λ r. []) rows)) ≡ cond (is_lost now (next_chosen p now rows) place (row_at place rows)) None (if_stored (row_at place rows))
chosen_left p n now place rows h =
    ap if_stored (row_at-gone n place (is_next_chosen p now (live now (bare rows))) (live_placed now rows) (order_filter n _ rows h)
    ∙ ap (λ o. cond (is_place_of (next_chosen p now rows) place) None o) (row_at-filter n place (λ r. not (has_lapsed now r)) rows h))
    ∙ left_stored now place (next_chosen p now rows) (row_at place rows)

-- ---- stations

pub found_in_order : (n : ℕ) (key : Key) (stations : List Station) → AllInOrder n stations → InOrder n (placed_rows (station_of key stations))
found_in_order n key [] h = tt
found_in_order n key (x ∷ stations) h = go (key_eq x.key key) (found_in_order n key stations h.1)
  where
    go : (b : Bool) → InOrder n (placed_rows (station_of key stations)) → InOrder n (placed_rows (cond b (Some x) (station_of key stations)))
    go true r = h.0
    go false r = r

-- what stands under another key is as before
pub found_other : (k key : Key) (f : List PlacedRow → List PlacedRow) (stations : List Station) → key_eq k key ≡ false → station_of key (at_key k (with_rows f) stations) ≡ station_of key stations
found_other k key f [] e = refl
found_other k key f (x ∷ stations) e = go (key_eq x.key k) refl (found_other k key f stations e)
  where
    differs : key_eq x.key k ≡ true → key_eq x.key key ≡ false
    differs d = ap (λ t. key_eq t key) (key_same x.key k d) ∙ e

    go : (b : Bool) → key_eq x.key k ≡ b → station_of key (at_key k (with_rows f) stations) ≡ station_of key stations
        → station_of key (cond b (with_rows f x ∷ stations) (x ∷ at_key k (with_rows f) stations)) ≡ cond (key_eq x.key key) (Some x) (station_of key stations)
    go true d r = ap (λ c. cond c (Some (with_rows f x)) (station_of key stations)) (differs d) ∙ sym (ap (λ c. cond c (Some x) (station_of key stations)) (differs d))
    go false d r = ap (λ o. cond (key_eq x.key key) (Some x) o) r

-- what stands under the key has those rows
pub found_own : (k : Key) (f : List PlacedRow → List PlacedRow) → f [] ≡ [] → (stations : List Station) → placed_rows (station_of k (at_key k (with_rows f) stations)) ≡ f (placed_rows (station_of k stations))
found_own k f z [] = sym z
found_own k f z (x ∷ stations) = go (key_eq x.key k) refl (found_own k f z stations)
  where
    go : (b : Bool) → key_eq x.key k ≡ b → placed_rows (station_of k (at_key k (with_rows f) stations)) ≡ f (placed_rows (station_of k stations))
        → placed_rows (station_of k (cond b (with_rows f x ∷ stations) (x ∷ at_key k (with_rows f) stations))) ≡ f (placed_rows (cond b (Some x) (station_of k stations)))
    go true d r = ap (λ c. placed_rows (cond c (Some (with_rows f x)) (station_of k stations))) d
    go false d r = ap (λ c. placed_rows (cond c (Some x) (station_of k (at_key k (with_rows f) stations)))) d ∙ r

-- what a subscription asks for is as before
pub definition_kept : (k key : Key) (f : List PlacedRow → List PlacedRow) (stations : List Station) → definition_of (station_of key (at_key k (with_rows f) stations)) ≡ definition_of (station_of key stations)
definition_kept k key f [] = refl
definition_kept k key f (x ∷ stations) = go (key_eq x.key k) (definition_kept k key f stations)
  where
    go : (b : Bool) → definition_of (station_of key (at_key k (with_rows f) stations)) ≡ definition_of (station_of key stations)
        → definition_of (station_of key (cond b (with_rows f x ∷ stations) (x ∷ at_key k (with_rows f) stations))) ≡ definition_of (cond (key_eq x.key key) (Some x) (station_of key stations))
    go true r = same (key_eq x.key key)
      where
        same : (c : Bool) → definition_of (cond c (Some (with_rows f x)) (station_of key stations)) ≡ definition_of (cond c (Some x) (station_of key stations))
        same true = refl
        same false = refl
    go false r = other (key_eq x.key key)
      where
        other : (c : Bool) → definition_of (cond c (Some x) (station_of key (at_key k (with_rows f) stations))) ≡ definition_of (cond c (Some x) (station_of key stations))
        other true = refl
        other false = r

-- ---- the state

-- the row that is stored of the key after the delivery
row_own : (p : Content → Bool) (now : ℕ) (k : Key) (state : State) → StandsInOrder state → is_lasting k ≡ true → (place : ℕ) →
    stored_row (receive p (λ r. []) now (Some k) state) k place ≡ cond (is_lost now (next_under p now k (placed_under state k)) place (row_at place (placed_under state k))) None (stored_row state k place)
row_own p now (Queue name) state o l place =
    ap (λ c. if_stored (row_at place (cond c (deliver_chosen p now (λ r. []) (state.queues name)) (state.queues name)))) (own name)
    ∙ chosen_left p state.next_place now place (state.queues name) (o.queues name)
  where
    own : (name : List ℕ) → text_eq name name ≡ true
    own name = key_refl (Queue name)
row_own p now (Own s c) state o l place = cc
row_own p now (SharedOwn client name) state o l place = cc
row_own p now (Durable client name) state o l place =
    ap (λ rows. if_stored (row_at place rows)) (found_own (Durable client name) (deliver_placed now (λ r. [])) refl state.stations)
    ∙ placed_left state.next_place now place (placed_rows (station_of (Durable client name) state.stations)) (found_in_order state.next_place (Durable client name) state.stations o.stations)

-- rows under one key are changed
abbrev pub changes : (List PlacedRow → List PlacedRow) → (List PlacedRow → List PlacedRow) → Key → State → State
changes fs fq k state = record state { stations = at_key k (with_rows fs) state.stations; queues = at_queue_of k fq state.queues }

-- under each other key the same is stored
pub row_other : (fs fq : List PlacedRow → List PlacedRow) (k : Key) (state : State) (key : Key) → key_eq k key ≡ false → (place : ℕ) → stored_row (changes fs fq k state) key place ≡ stored_row state key place
row_other fs fq (Queue name) state (Queue other) e place = ap (λ c. if_stored (row_at place (cond c (fq (state.queues other)) (state.queues other)))) e
row_other fs fq (Own s c) state (Queue other) e place = refl
row_other fs fq (SharedOwn client name) state (Queue other) e place = refl
row_other fs fq (Durable client name) state (Queue other) e place = refl
row_other fs fq k state (Own s c) e place = refl
row_other fs fq k state (SharedOwn client name) e place = refl
row_other fs fq k state (Durable client name) e place = ap (λ x. if_stored (row_at place (placed_rows x))) (found_other k (Durable client name) fs state.stations e)

row_left : (p : Content → Bool) (now : ℕ) (k : Key) (state : State) → StandsInOrder state → is_lasting k ≡ true → (key : Key) (place : ℕ) →
    stored_row (receive p (λ r. []) now (Some k) state) key place ≡ cond (key_eq k key && is_lost now (next_under p now k (placed_under state k)) place (row_at place (placed_under state k))) None (stored_row state key place)
row_left p now k state o l key place = go (key_eq k key) refl
  where
    go : (b : Bool) → key_eq k key ≡ b → stored_row (receive p (λ r. []) now (Some k) state) key place ≡ cond (b && is_lost now (next_under p now k (placed_under state k)) place (row_at place (placed_under state k))) None (stored_row state key place)
    go true e = subst (λ t. stored_row (receive p (λ r. []) now (Some k) state) t place ≡ cond (is_lost now (next_under p now k (placed_under state k)) place (row_at place (placed_under state k))) None (stored_row state t place)) (key_same k key e) (row_own p now k state o l place)
    go false e = row_other (deliver_placed now (λ r. [])) (deliver_chosen p now (λ r. [])) k state key e place

pub receive_loses : ReceiveLoses
receive_loses state p now k rows delays places o l lost =
    loses_gone (taken_under k now (next_under p now k (placed_under state k))) state (receive p (λ r. []) now (Some k) state) rows delays places
    (λ key. ap (λ d. cond (is_durable key) d None) (definition_kept k key (deliver_placed now (λ r. [])) state.stations))
    (λ key place. row_left p now k state o l key place ∙ ap (λ b. cond b None (stored_row state key place)) (under_key (taken now (next_under p now k (placed_under state k)) place) k state l key place))
    lost
