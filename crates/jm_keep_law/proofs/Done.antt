-- What a listener that is done with its message loses of what is stored, and that what it gives back changes nothing of it.
use Rattle.std.proofs.Common.{◌≡◌, ℕ, Bool, true, false, cond, List, [], refl, sym, subst, ◌∙◌, ap, Option, Some, None, append-nil}
use Rattle.std.specs.Prelude.{◌&&◌, not, MatchBool}
use Rattle.jm_base.specs.declared.mode.Mode.{Mode}
use Rattle.jm_dest.specs.declared.key.Key.{Key}
use Rattle.jm_dest.specs.declared.session.SessionId.{SessionId}
use Rattle.jm_dest.specs.Keys.{key_eq}
use Rattle.jm_machine.specs.declared.state.Consumer.{Consumer}
use Rattle.jm_machine.specs.declared.state.PlacedRow.{PlacedRow}
use Rattle.jm_machine.specs.Rows.{is_out, settles_at_once}
use Rattle.jm_machine.specs.Machine.{State, done, of_number, returned_rows, set_busy, settled_rows, with_done}
use Rattle.jm_machine.specs.Reopened.{is_durable}
use Rattle.jm_machine.specs.Under.{placed_under}
use Rattle.jm_machine.proofs.Keys.{key_same}
use Rattle.jm_keep.specs.declared.change.RowChange.{RowChange}
use Rattle.jm_keep.specs.Stored.{changed_all}
use Rattle.jm_keep.specs.Persisted.{row_at, stored_row, if_stored, is_lasting, LeadsTo}
use Rattle.jm_keep.specs.Leads.{StoresTheSame, drops}
use Rattle.jm_keep.specs.Steps.{StandsInOrder, DoneLoses, out_under, passes}
use Rattle.jm_keep.specs.Calls.{AreDone, DropsThen}
use Rattle.jm_keep_law.proofs.Placed.{row_at-filter}
use Rattle.jm_keep_law.proofs.Gone.{left_stored, loses_gone, under_key}
use Rattle.jm_keep_law.proofs.Published.{under_in_order, if_lasts}
use Rattle.jm_keep_law.proofs.Settled.{returned_stored}
use Rattle.jm_keep_law.proofs.Received.{changes, definition_kept, row_other}
use Rattle.jm_keep_law.proofs.Counted.{one_change, stored_of, under_changed}
use Rattle.jm_keep_law.proofs.Leads.{drops_lead, nothing_leads}
use Rattle.jm_keep_law.proofs.Quiet.{changes_same, durables_same, none_lead, same_trans}

-- all rows of the key change
under_all : (f : List PlacedRow → List PlacedRow) → f [] ≡ [] → (k : Key) (state : State) → placed_under (changes f f k state) k ≡ f (placed_under state k)
under_all f z k state = under_changed f f z k state ∙ one_change k f (placed_under state k)

-- ---- what is settled

row_own : (p : SessionId → ℕ → Bool) (k : Key) (state : State) → StandsInOrder state → is_lasting k ≡ true → (place : ℕ) →
    stored_row (changes (settled_rows p) (settled_rows p) k state) k place ≡ cond (passes (is_out p) (row_at place (placed_under state k))) None (stored_row state k place)
row_own p k state o l place =
    stored_of (changes (settled_rows p) (settled_rows p) k state) k l place
    ∙ ap (λ rows. if_stored (row_at place rows)) (under_all (settled_rows p) refl k state)
    ∙ ap if_stored (row_at-filter state.next_place place (λ r. not (is_out p r)) (placed_under state k) (under_in_order state o k))
    ∙ left_stored (is_out p) (row_at place (placed_under state k))
    ∙ ap (λ x. cond (passes (is_out p) (row_at place (placed_under state k))) None x) (sym (stored_of state k l place))

row_left : (p : SessionId → ℕ → Bool) (k : Key) (state : State) → StandsInOrder state → is_lasting k ≡ true → (key : Key) (place : ℕ) →
    stored_row (changes (settled_rows p) (settled_rows p) k state) key place ≡ cond (key_eq k key && passes (is_out p) (row_at place (placed_under state k))) None (stored_row state key place)
row_left p k state o l key place = go (key_eq k key) refl
  where
    go : (b : Bool) → key_eq k key ≡ b → stored_row (changes (settled_rows p) (settled_rows p) k state) key place ≡ cond (b && passes (is_out p) (row_at place (placed_under state k))) None (stored_row state key place)
    go true e = subst (λ t. stored_row (changes (settled_rows p) (settled_rows p) k state) t place ≡ cond (passes (is_out p) (row_at place (placed_under state k))) None (stored_row state t place)) (key_same k key e) (row_own p k state o l place)
    go false e = row_other (settled_rows p) (settled_rows p) k state key e place

pub done_loses : DoneLoses
done_loses state s c k rows delays places o l gone =
    loses_gone (out_under k (of_number s c)) state (with_done s c true (Some k) state) rows delays places
    (λ key. ap (λ d. cond (is_durable key) d None) (definition_kept k key (settled_rows (of_number s c)) state.stations))
    (λ key place. row_left (of_number s c) k state o l key place ∙ ap (λ b. cond b None (stored_row state key place)) (under_key (is_out (of_number s c)) k state l key place)) gone

-- ---- what is given back

pub given_same : (p : SessionId → ℕ → Bool) (k : Key) (state : State) → StoresTheSame state (changes (returned_rows p) (returned_rows p) k state)
given_same p k state = record {
  definitions = λ key. ap (λ d. cond (is_durable key) d None) (definition_kept k key (returned_rows p) state.stations);
  rows = λ key place. go key place (key_eq k key) refl;
}
  where
    go : (key : Key) (place : ℕ) (b : Bool) → key_eq k key ≡ b → stored_row (changes (returned_rows p) (returned_rows p) k state) key place ≡ stored_row state key place
    go key place true e = subst (λ t. stored_row (changes (returned_rows p) (returned_rows p) k state) t place ≡ stored_row state t place) (key_same k key e)
        (ap (λ rows. if_lasts (is_lasting k) (if_stored (row_at place rows))) (under_all (returned_rows p) refl k state) ∙ ap (λ r. if_lasts (is_lasting k) r) (returned_stored p place (placed_under state k)))
    go key place false e = row_other (returned_rows p) (returned_rows p) k state key e place

-- ---- consumers

-- of consumers nothing is stored
pub consumers_same : (consumers : List Consumer) (state : State) → StoresTheSame state (record state { consumers = consumers })
consumers_same consumers state = durables_same state (record state { consumers = consumers }) (λ client name. refl) refl

-- where a state stores the same as one to which changes lead, they lead to it
pub lead_on : (a b c : State) (cs : List RowChange) → LeadsTo a b cs → StoresTheSame b c → LeadsTo a c cs
lead_on a b c cs f h s p = nothing_leads b c h (changed_all s cs) (f s p)

-- ---- a listener that is done

pub done_lead : (state : State) (s : SessionId) (c : ℕ) (ok : Bool) (mode : Option Mode) (k : Option Key) (cs : List RowChange) → StandsInOrder state →
    MatchBool (ok && settles_at_once mode) (AreDone (of_number s c) k state cs) (cs ≡ []) → LeadsTo state (done s c ok mode k state) cs
done_lead state s c ok mode k cs o h = go ok (settles_at_once mode) h
  where
    free : State
    free = record state { consumers = set_busy s c false state.consumers }

    quiet : StoresTheSame state free
    quiet = consumers_same (set_busy s c false state.consumers) state

    settled_by : (k : Option Key) → AreDone (of_number s c) k state cs → LeadsTo state (with_done s c true k free) cs
    settled_by None h = none_lead state free cs quiet h
    settled_by (Some k) h = last (is_lasting k) refl h
      where
        last : (b : Bool) → is_lasting k ≡ b → MatchBool b (DropsThen (out_under k (of_number s c)) state [] cs) (cs ≡ []) → LeadsTo state (with_done s c true (Some k) free) cs
        last true l h =
            lead_on state (with_done s c true (Some k) state) (with_done s c true (Some k) free) cs
            (subst (λ t. LeadsTo state (with_done s c true (Some k) state) t) (sym (h.changes_are ∙ append-nil (drops h.rows h.delays h.places)))
            (drops_lead state (with_done s c true (Some k) state) h.rows h.delays h.places (done_loses state s c k h.rows h.delays h.places o l h.are_gone)))
            (durables_same (with_done s c true (Some k) state) (with_done s c true (Some k) free) (λ client name. refl) refl)
        last false l h = none_lead state (with_done s c true (Some k) free) cs (same_trans state free (with_done s c true (Some k) free) quiet (changes_same (settled_rows (of_number s c)) (settled_rows (of_number s c)) k free l)) h

    given_by : (k : Option Key) → cs ≡ [] → LeadsTo state (with_done s c false k free) cs
    given_by None h = none_lead state free cs quiet h
    given_by (Some k) h = none_lead state (with_done s c false (Some k) free) cs (same_trans state free (with_done s c false (Some k) free) quiet (given_same (of_number s c) k free)) h

    go : (ok b : Bool) → MatchBool (ok && b) (AreDone (of_number s c) k state cs) (cs ≡ []) → LeadsTo state (cond b (with_done s c ok k free) free) cs
    go true true h = settled_by k h
    go false true h = given_by k h
    go true false h = none_lead state free cs quiet h
    go false false h = none_lead state free cs quiet h
