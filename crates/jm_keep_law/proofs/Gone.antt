-- From the rows that go to what a state loses of what is stored.
use Rattle.std.proofs.Common.{◌≡◌, ℕ, Bool, true, false, cond, List, refl, sym, subst, ◌∙◌, ap, Option, Some, None}
use Rattle.std.specs.Prelude.{IsSome, ◌&&◌, not}
use Rattle.jm_dest.specs.declared.key.Key.{Key}
use Rattle.jm_dest.specs.Keys.{key_eq}
use Rattle.jm_machine.specs.declared.state.Row.{Row}
use Rattle.jm_machine.specs.Machine.{State}
use Rattle.jm_machine.specs.Under.{is_persistent, placed_under}
use Rattle.jm_machine.proofs.Keys.{key_same}
use Rattle.jm_keep.specs.Persisted.{shown, row_at, StoredRow, stored_row, if_stored, is_lasting, durable_definition}
use Rattle.jm_keep.specs.Leads.{is_one_of, is_among, Loses}
use Rattle.jm_keep.specs.Steps.{passes, AreGone}
use Rattle.jm_keep_law.proofs.Placed.{if_passes}

-- what is stored of a row that stays where it does not pass
pub left_stored : (q : Row → Bool) (o : Option Row) → if_stored (if_passes (λ r. not (q r)) o) ≡ cond (passes q o) None (if_stored o)
left_stored q None = refl
left_stored q (Some r) = go (q r) (is_persistent r.message.mode) refl
  where
    go : (a b : Bool) → is_persistent r.message.mode ≡ b → if_stored (cond (not a) (Some r) None) ≡ cond (b && a) None (cond b (Some (shown r)) None)
    go true true e = refl
    go false true e = ap (λ d. cond d (Some (shown r)) None) e
    go true false e = refl
    go false false e = ap (λ d. cond d (Some (shown r)) None) e

false_either : (c : Bool) → (c && false) ≡ false
false_either true = refl
false_either false = refl

-- nothing goes where none is to go
none_goes : (q : Row → Bool) (o : Option Row) → passes (λ r. false && q r) o ≡ false
none_goes q None = refl
none_goes q (Some r) = false_either (is_persistent r.message.mode)

-- what goes under one key goes under that key alone
pub under_key : (q : Row → Bool) (k : Key) (state : State) → is_lasting k ≡ true → (key : Key) (place : ℕ) →
    (key_eq k key && passes q (row_at place (placed_under state k))) ≡ (is_lasting key && passes (λ r. key_eq k key && q r) (row_at place (placed_under state key)))
under_key q k state l key place = go (key_eq k key) refl
  where
    go : (b : Bool) → key_eq k key ≡ b → (b && passes q (row_at place (placed_under state k))) ≡ (is_lasting key && passes (λ r. b && q r) (row_at place (placed_under state key)))
    go true e = subst (λ t. passes q (row_at place (placed_under state k)) ≡ (is_lasting t && passes q (row_at place (placed_under state t)))) (key_same k key e)
        (sym (ap (λ c. c && passes q (row_at place (placed_under state k))) l))
    go false e = sym (ap (λ c. is_lasting key && c) (none_goes q (row_at place (placed_under state key))) ∙ false_either (is_lasting key))

-- a state that has lost the rows that go has lost what is listed of them
pub loses_gone : (goes : Key → ℕ → Row → Bool) (old new : State) (rows : List (Key × ℕ)) (delays places : List ℕ) →
    ((key : Key) → durable_definition new key ≡ durable_definition old key) →
    ((key : Key) (place : ℕ) → stored_row new key place ≡ cond (is_lasting key && passes (goes key place) (row_at place (placed_under old key))) None (stored_row old key place)) →
    AreGone goes old rows delays places → Loses old new rows delays places
loses_gone goes old new rows delays places d l a = record {
  definitions = d;
  gone = gone;
  kept = kept;
  last = λ key place e. last key place e (stored_row old key place) refl;
  left = λ key place e f. let it = a.places_are.left key place e f in (it.0, subst (λ o. IsSome o) (sym (kept it.0 place it.2)) it.1);
  delays_are = a.delays_are;
}
  where
    gone : (key : Key) (place : ℕ) → is_one_of rows key place ≡ true → stored_row new key place ≡ None
    gone key place e = l key place ∙ ap (λ b. cond b None (stored_row old key place)) (sym (a.rows_are key place) ∙ e)

    kept : (key : Key) (place : ℕ) → is_one_of rows key place ≡ false → stored_row new key place ≡ stored_row old key place
    kept key place e = l key place ∙ ap (λ b. cond b None (stored_row old key place)) (sym (a.rows_are key place) ∙ e)

    empty : (b : Bool) (o : Option StoredRow) → o ≡ None → cond b None o ≡ None
    empty true o e = refl
    empty false o e = e

    last : (key : Key) (place : ℕ) → is_among places place ≡ true → (o : Option StoredRow) → stored_row old key place ≡ o → stored_row new key place ≡ None
    last key place e None f = l key place ∙ empty (is_lasting key && passes (goes key place) (row_at place (placed_under old key))) (stored_row old key place) f
    last key place e (Some r) f = gone key place (a.places_are.last key place e (subst (λ (o : Option StoredRow). IsSome o) (sym f) refl))
