-- What a delivery that does not settle changes of what is stored: the rows that have lapsed go, and the next one is counted.
use Rattle.std.proofs.Common.{◌≡◌, ℕ, Bool, true, false, cond, List, [], ◌∷◌, refl, sym, subst, ◌∙◌, ap, Option, Some, None, arith}
use Rattle.std.specs.Prelude.{◌==◌, ◌&&◌, not, option_map}
use Rattle.std.proofs.lemmas.Bool.Decides.{nat_tests}
use Rattle.jm_dest.specs.declared.key.Key.{Key}
use Rattle.jm_dest.specs.declared.key.Key.TheVariants.{Queue, Own, SharedOwn, Durable}
use Rattle.jm_dest.specs.declared.session.SessionId.{SessionId}
use Rattle.jm_dest.specs.Keys.{key_eq}
use Rattle.jm_header.specs.declared.content.Content.{Content}
use Rattle.jm_machine.specs.declared.state.PlacedRow.{PlacedRow}
use Rattle.jm_machine.specs.declared.state.Row.{Row}
use Rattle.jm_machine.specs.Rows.{has_lapsed, raised, sent_out, InOrder, live_placed, live, bare, is_next, is_next_chosen, deliver_placed, deliver_chosen}
use Rattle.jm_machine.specs.Machine.{State, receive}
use Rattle.jm_machine.specs.Reopened.{is_durable}
use Rattle.jm_machine.specs.Under.{is_persistent, next_under, placed_under}
use Rattle.jm_machine.proofs.Keys.{key_same, key_refl}
use Rattle.jm_keep.specs.declared.change.RowChange.TheVariants.{SetCount}
use Rattle.jm_keep.specs.Stored.{is_at}
use Rattle.jm_keep.specs.Persisted.{shown, row_at, StoredRow, stored_row, if_stored, is_lasting, durable_definition, LeadsTo}
use Rattle.jm_keep.specs.Leads.{drops}
use Rattle.jm_keep.specs.Steps.{StandsInOrder, is_place_of, passes, lapsed_under, counted, CountedReceiveLeads}
use Rattle.jm_keep_law.proofs.Placed.{row_at-filter, row_at-sent, found_row, order_filter}
use Rattle.jm_keep_law.proofs.Gone.{left_stored, under_key, loses_gone}
use Rattle.jm_keep_law.proofs.Leads.{chain, drops_lead, count_leads, nothing_leads}
use Rattle.jm_keep_law.proofs.Received.{changes, found_own, definition_kept, row_other}
use Rattle.jm_keep_law.proofs.Published.{under_in_order}

-- ---- the row that goes out

-- the row at a place, sent out where it is that one
abbrev sent_at : SessionId → ℕ → Option PlacedRow → ℕ → Option Row → Option Row
sent_at s c next place o = cond (is_place_of next place) (option_map (sent_out s c) o) o

-- where one row of the key goes out, and all others are as before, its count is set
counts_next : (mid new : State) (k : Key) (s : SessionId) (c : ℕ) (rows : List PlacedRow) (next : Option PlacedRow) →
    ((key : Key) → durable_definition new key ≡ durable_definition mid key) →
    ((place : ℕ) → stored_row mid k place ≡ if_stored (row_at place rows)) →
    ((place : ℕ) → stored_row new k place ≡ if_stored (sent_at s c next place (row_at place rows))) →
    ((key : Key) → key_eq k key ≡ false → (place : ℕ) → stored_row new key place ≡ stored_row mid key place) →
    ((x : PlacedRow) → next ≡ Some x → row_at x.place rows ≡ Some x.row) →
    LeadsTo mid new (counted k next)
counts_next mid new k s c rows None d m n o f = nothing_leads mid new (record { definitions = d; rows = λ key place. same key place (key_eq k key) refl })
  where
    same : (key : Key) (place : ℕ) (b : Bool) → key_eq k key ≡ b → stored_row new key place ≡ stored_row mid key place
    same key place true e = subst (λ t. stored_row new t place ≡ stored_row mid t place) (key_same k key e) (n place ∙ sym (m place))
    same key place false e = o key e place
counts_next mid new k s c rows (Some x) d m n o f = go (is_persistent x.row.message.mode) refl
  where
    set : StoredRow → StoredRow
    set r = record { count = raised x.row.count; message = r.message }

    stands : row_at x.place rows ≡ Some x.row
    stands = f x refl

    here : (x.place == x.place) ≡ true
    here = grind (arith, nat_tests)

    own : is_persistent x.row.message.mode ≡ true → stored_row new k x.place ≡ option_map (λ r. record { count = raised x.row.count; message = r.message }) (stored_row mid k x.place)
    own e = n x.place
        ∙ ap (λ r. if_stored (cond (x.place == x.place) (option_map (sent_out s c) r) r)) stands
        ∙ ap (λ b. if_stored (cond b (Some (sent_out s c x.row)) (Some x.row))) here
        ∙ ap (λ b. cond b (Some (shown (sent_out s c x.row))) None) e
        ∙ sym (ap (option_map (λ r. record { count = raised x.row.count; message = r.message })) (m x.place ∙ ap if_stored stands ∙ ap (λ b. cond b (Some (shown x.row)) None) e))

    others : (key : Key) (p : ℕ) → is_at k x.place key p ≡ false → stored_row new key p ≡ stored_row mid key p
    others key p e = at (key_eq k key) refl e
      where
        at : (b : Bool) → key_eq k key ≡ b → (b && (x.place == p)) ≡ false → stored_row new key p ≡ stored_row mid key p
        at true h e = subst (λ t. stored_row new t p ≡ stored_row mid t p) (key_same k key h) (n p ∙ ap (λ b. if_stored (cond b (option_map (sent_out s c) (row_at p rows)) (row_at p rows))) e ∙ sym (m p))
        at false h e = o key h p

    same : is_persistent x.row.message.mode ≡ false → (key : Key) (place : ℕ) (b : Bool) → key_eq k key ≡ b → stored_row new key place ≡ stored_row mid key place
    same e key place true h = subst (λ t. stored_row new t place ≡ stored_row mid t place) (key_same k key h) (n place ∙ at (x.place == place) refl ∙ sym (m place))
      where
        at : (b : Bool) → (x.place == place) ≡ b → if_stored (cond b (option_map (sent_out s c) (row_at place rows)) (row_at place rows)) ≡ if_stored (row_at place rows)
        at true i = let there : x.place ≡ place = grind (arith, nat_tests) in
            subst (λ t. if_stored (option_map (sent_out s c) (row_at t rows)) ≡ if_stored (row_at t rows)) there
            (ap (λ r. if_stored (option_map (sent_out s c) r)) stands ∙ ap (λ b. cond b (Some (shown (sent_out s c x.row))) None) e ∙ sym (ap if_stored stands ∙ ap (λ b. cond b (Some (shown x.row)) None) e))
        at false i = refl
    same e key place false h = o key h place

    go : (b : Bool) → is_persistent x.row.message.mode ≡ b → LeadsTo mid new (cond b (SetCount k x.place (raised x.row.count) ∷ []) [])
    go true e = count_leads mid new k x.place (raised x.row.count) (record { definitions = d; own = own e; others = others })
    go false e = nothing_leads mid new (record { definitions = d; rows = λ key place. same e key place (key_eq k key) refl })

-- ---- rows under the key

-- which of two changes is that of the rows under the key
abbrev pub of_key : Key → (List PlacedRow → List PlacedRow) → (List PlacedRow → List PlacedRow) → List PlacedRow → List PlacedRow
of_key (Queue name) fs fq rows = fq rows
of_key (Own s c) fs fq rows = fs rows
of_key (SharedOwn client name) fs fq rows = fs rows
of_key (Durable client name) fs fq rows = fs rows

pub under_changed : (fs fq : List PlacedRow → List PlacedRow) → fs [] ≡ [] → (k : Key) (state : State) → placed_under (changes fs fq k state) k ≡ of_key k fs fq (placed_under state k)
under_changed fs fq z (Queue name) state = ap (λ c. cond c (fq (state.queues name)) (state.queues name)) (key_refl (Queue name))
under_changed fs fq z (Own s c) state = found_own (Own s c) fs z state.stations
under_changed fs fq z (SharedOwn client name) state = found_own (SharedOwn client name) fs z state.stations
under_changed fs fq z (Durable client name) state = found_own (Durable client name) fs z state.stations

pub one_change : (k : Key) (f : List PlacedRow → List PlacedRow) (rows : List PlacedRow) → of_key k f f rows ≡ f rows
one_change (Queue name) f rows = refl
one_change (Own s c) f rows = refl
one_change (SharedOwn client name) f rows = refl
one_change (Durable client name) f rows = refl

pub stored_of : (state : State) (k : Key) → is_lasting k ≡ true → (place : ℕ) → stored_row state k place ≡ if_stored (row_at place (placed_under state k))
stored_of state k l place = ap (λ b. cond b (if_stored (row_at place (placed_under state k))) None) l

sent_row : (p : Content → Bool) (s : SessionId) (c now n : ℕ) (k : Key) (rows : List PlacedRow) → InOrder n rows → (place : ℕ) →
    row_at place (of_key k (deliver_placed now (λ r. sent_out s c r ∷ [])) (deliver_chosen p now (λ r. sent_out s c r ∷ [])) rows) ≡ sent_at s c (next_under p now k rows) place (row_at place (live_placed now rows))
sent_row p s c now n (Queue name) rows h place = row_at-sent n place (is_next_chosen p now (live now (bare rows))) (sent_out s c) (live_placed now rows) (order_filter n _ rows h)
sent_row p s c now n (Own t d) rows h place = row_at-sent n place (is_next now (live now (bare rows))) (sent_out s c) (live_placed now rows) (order_filter n _ rows h)
sent_row p s c now n (SharedOwn client name) rows h place = row_at-sent n place (is_next now (live now (bare rows))) (sent_out s c) (live_placed now rows) (order_filter n _ rows h)
sent_row p s c now n (Durable client name) rows h place = row_at-sent n place (is_next now (live now (bare rows))) (sent_out s c) (live_placed now rows) (order_filter n _ rows h)

pub next_stands : (p : Content → Bool) (now n : ℕ) (k : Key) (rows : List PlacedRow) → InOrder n rows → (x : PlacedRow) → next_under p now k rows ≡ Some x → row_at x.place (live_placed now rows) ≡ Some x.row
next_stands p now n (Queue name) rows h x e = found_row n (is_next_chosen p now (live now (bare rows))) (live_placed now rows) (order_filter n _ rows h) x e
next_stands p now n (Own t d) rows h x e = found_row n (is_next now (live now (bare rows))) (live_placed now rows) (order_filter n _ rows h) x e
next_stands p now n (SharedOwn client name) rows h x e = found_row n (is_next now (live now (bare rows))) (live_placed now rows) (order_filter n _ rows h) x e
next_stands p now n (Durable client name) rows h x e = found_row n (is_next now (live now (bare rows))) (live_placed now rows) (order_filter n _ rows h) x e

-- ---- the state

-- the rows of the key that have lapsed are gone
lapsed : ℕ → Key → State → State
lapsed now k state = changes (live_placed now) (live_placed now) k state

own_lapsed : (now : ℕ) (k : Key) (state : State) → is_lasting k ≡ true → (place : ℕ) → stored_row (lapsed now k state) k place ≡ if_stored (row_at place (live_placed now (placed_under state k)))
unfolding lapsed
own_lapsed now k state l place =
    stored_of (changes (live_placed now) (live_placed now) k state) k l place
    ∙ ap (λ rows. if_stored (row_at place rows)) (under_changed (live_placed now) (live_placed now) refl k state ∙ one_change k (live_placed now) (placed_under state k))

row_lapsed : (now : ℕ) (k : Key) (state : State) → StandsInOrder state → is_lasting k ≡ true → (key : Key) (place : ℕ) →
    stored_row (lapsed now k state) key place ≡ cond (key_eq k key && passes (has_lapsed now) (row_at place (placed_under state k))) None (stored_row state key place)
unfolding lapsed
row_lapsed now k state o l key place = go (key_eq k key) refl
  where
    go : (b : Bool) → key_eq k key ≡ b → stored_row (lapsed now k state) key place ≡ cond (b && passes (has_lapsed now) (row_at place (placed_under state k))) None (stored_row state key place)
    go true e = subst (λ t. stored_row (lapsed now k state) t place ≡ cond (passes (has_lapsed now) (row_at place (placed_under state k))) None (stored_row state t place)) (key_same k key e)
        (own_lapsed now k state l place
        ∙ ap if_stored (row_at-filter state.next_place place (λ r. not (has_lapsed now r)) (placed_under state k) (under_in_order state o k))
        ∙ left_stored (has_lapsed now) (row_at place (placed_under state k))
        ∙ sym (ap (λ r. cond (passes (has_lapsed now) (row_at place (placed_under state k))) None r) (stored_of state k l place)))
    go false e = row_other (live_placed now) (live_placed now) k state key e place

definition_lapsed : (now : ℕ) (k : Key) (state : State) (key : Key) → durable_definition (lapsed now k state) key ≡ durable_definition state key
unfolding lapsed
definition_lapsed now k state key = ap (λ d. cond (is_durable key) d None) (definition_kept k key (live_placed now) state.stations)

other_lapsed : (now : ℕ) (k : Key) (state : State) (key : Key) → key_eq k key ≡ false → (place : ℕ) → stored_row (lapsed now k state) key place ≡ stored_row state key place
unfolding lapsed
other_lapsed now k state key e place = row_other (live_placed now) (live_placed now) k state key e place

pub counted_receive_leads : CountedReceiveLeads
counted_receive_leads state p s c now k rows delays places o l gone =
    chain state (lapsed now k state) (receive p (λ r. sent_out s c r ∷ []) now (Some k) state) (drops rows delays places) (counted k (next_under p now k (placed_under state k)))
    (drops_lead state (lapsed now k state) rows delays places
    (loses_gone (lapsed_under k now) state (lapsed now k state) rows delays places (definition_lapsed now k state)
    (λ key place. row_lapsed now k state o l key place ∙ ap (λ b. cond b None (stored_row state key place)) (under_key (has_lapsed now) k state l key place)) gone))
    (counts_next (lapsed now k state) (receive p (λ r. sent_out s c r ∷ []) now (Some k) state) k s c (live_placed now (placed_under state k)) (next_under p now k (placed_under state k))
    (λ key. ap (λ d. cond (is_durable key) d None) (definition_kept k key (deliver_placed now (λ r. sent_out s c r ∷ [])) state.stations) ∙ sym (definition_lapsed now k state key))
    (own_lapsed now k state l)
    (λ place. stored_of (receive p (λ r. sent_out s c r ∷ []) now (Some k) state) k l place
    ∙ ap (λ xs. if_stored (row_at place xs)) (under_changed (deliver_placed now (λ r. sent_out s c r ∷ [])) (deliver_chosen p now (λ r. sent_out s c r ∷ [])) refl k state)
    ∙ ap if_stored (sent_row p s c now state.next_place k (placed_under state k) (under_in_order state o k) place))
    (λ key e place. row_other (deliver_placed now (λ r. sent_out s c r ∷ [])) (deliver_chosen p now (λ r. sent_out s c r ∷ [])) k state key e place ∙ sym (other_lapsed now k state key e place))
    (next_stands p now state.next_place k (placed_under state k) (under_in_order state o k)))
