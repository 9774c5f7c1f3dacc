-- Whom rows are out to, through each call.
use Rattle.std.proofs.Common.{◌≡◌, ℕ, ◌++◌, Bool, true, false, not, cond, List, [], ◌∷◌, refl, ap, sym, ◌==◌, None, arith, map}
use Rattle.std.proofs.lemmas.List.Elements.{All-weaker, All-nil, All-cons, All-append, All-head, All-tail, All-filter, All-map}
use Rattle.std.proofs.lemmas.List.Folds.{list_any_none}
use Rattle.jm_machine.specs.declared.state.RowState.{RowState}
use Rattle.jm_machine.specs.declared.state.RowState.TheVariants.{Waiting, Out}
use Rattle.jm_machine.specs.Rows.{goes_out}
use Rattle.jm_lane.specs.declared.row.Row.{Row}
use Rattle.jm_pending.specs.declared.receivers.Receivers.{Receivers}
use Rattle.jm_lane.specs.Rows.{are_home, is_out, is_from, back, sent, sent_at}
use Rattle.jm_pending.specs.Receivers.{is_known, AreKnown}
use Rattle.std.specs.List.{filter, find}
use Rattle.jm_dest.specs.declared.session.SessionId.{SessionId}
use Rattle.jm_lane.specs.Cursors.{out_from}
use Rattle.jm_lane.proofs.Rising.{find_none}
use Rattle.jm_pending.specs.declared.receivers.Receivers.TheVariants.{Nobody, One, Any}
use Rattle.jm_lane.specs.Holders.{Messages, Follows}
use Rattle.jm_lane.proofs.Rolling.{filter_none}
use Rattle.jm_lane.proofs.Home.{is_away}
use Rattle.jm_lane.proofs.Lowest.{fails_second}

-- whatever is known, a row may wait
known_waiting : (k : Receivers) → is_known k Waiting ≡ true
known_waiting Nobody = refl
known_waiting (One s c) = refl
known_waiting Any = refl

-- rows that go leave the others as they are
pub known_filter : (k : Receivers) (p : Row → Bool) (rows left : List Row) → left ≡ filter p rows → AreKnown k rows → AreKnown k left
known_filter k p rows left e known = rw e (All-filter p (λ (r : Row). is_known k r.state ≡ true) rows known)

-- the same rows are known so
pub known_same : (k : Receivers) (rows left : List Row) → left ≡ rows → AreKnown k rows → AreKnown k left
known_same k rows left e known = rw e known

-- where more is allowed, the rows are known so
pub known_more : (k l : Receivers) (rows : List Row) → ((state : RowState) → is_known k state ≡ true → is_known l state ≡ true) → AreKnown k rows → AreKnown l rows
known_more k l rows more known = All-weaker (λ (r : Row). is_known k r.state ≡ true) (λ (r : Row). is_known l r.state ≡ true) (λ r h. more r.state h) rows known

-- a row that comes is known
pub known_added : (k l : Receivers) (rows left : List Row) (row : Row) → left ≡ rows ++ row ∷ [] → is_known l row.state ≡ true → ((state : RowState) → is_known k state ≡ true → is_known l state ≡ true) → AreKnown k rows → AreKnown l left
known_added k l rows left row e this more known =
    rw e (All-append (λ (r : Row). is_known l r.state ≡ true) rows (row ∷ []) (known_more k l rows more known) (All-cons (λ (r : Row). is_known l r.state ≡ true) row [] this (All-nil (λ (r : Row). is_known l r.state ≡ true))))

-- a row that is sent goes out to the one who receives it
known_sent_row : (l : Receivers) (place : ℕ) (s : SessionId) (c : ℕ) (r : Row) → is_known l (Out s c) ≡ true → is_known l r.state ≡ true → is_known l (sent_at place s c r).state ≡ true
known_sent_row l place s c r to known =
    elim (r.place == place) as (λ b. is_known l (cond b (sent s c r) r).state ≡ true) [
      | true ↦ to
      | false ↦ known
    ]

pub known_sent : (k l : Receivers) (place : ℕ) (s : SessionId) (c : ℕ) (rows left : List Row) → left ≡ map (sent_at place s c) rows → is_known l (Out s c) ≡ true → ((state : RowState) → is_known k state ≡ true → is_known l state ≡ true) → AreKnown k rows → AreKnown l left
known_sent k l place s c rows left e to more known =
    rw e (All-map (λ (r : Row). is_known l r.state ≡ true) (sent_at place s c) rows (All-weaker (λ (r : Row). is_known k r.state ≡ true) (λ (r : Row). is_known l (sent_at place s c r).state ≡ true) (λ r h. known_sent_row l place s c r to (more r.state h)) rows known))

-- what is said of a row that is not out through consumers that pass, once none is
abbrev pub AreOthers : (SessionId → ℕ → Bool) → Receivers → Receivers → Type 0
AreOthers p k l = (state : RowState) → is_known k state ≡ true → goes_out p state ≡ false → is_known l state ≡ true

-- a row that passes waits again, and each other is not out through those
known_back_row : (p : SessionId → ℕ → Bool) (k l : Receivers) (r : Row) → AreOthers p k l → is_known k r.state ≡ true → is_known l (back (is_out p) r).state ≡ true
known_back_row p k l r others known =
    elim (is_out p r) as (λ b. (is_out p r ≡ b) → is_known l (cond b (record r { state = Waiting }) r).state ≡ true) [
      | true ↦ λ is. known_waiting l
      | false ↦ λ is. others r.state known is
    ] refl

pub known_back : (p : SessionId → ℕ → Bool) (k l : Receivers) (rows left : List Row) → left ≡ map (back (is_out p)) rows → AreOthers p k l → AreKnown k rows → AreKnown l left
known_back p k l rows left e others known =
    rw e (All-map (λ (r : Row). is_known l r.state ≡ true) (back (is_out p)) rows (All-weaker (λ (r : Row). is_known k r.state ≡ true) (λ (r : Row). is_known l (back (is_out p) r).state ≡ true) (λ r h. known_back_row p k l r others h) rows known))

known_left_rows : (p : SessionId → ℕ → Bool) (k l : Receivers) (rows : List Row) → AreOthers p k l → AreKnown k rows → AreKnown l (filter (λ r. not (is_out p r)) rows)
known_left_rows p k l [] others known = All-nil (λ (r : Row). is_known l r.state ≡ true)
known_left_rows p k l (x ∷ xs) others known =
    let rest = known_left_rows p k l xs others (All-tail (λ (r : Row). is_known k r.state ≡ true) x xs known) in
    elim (is_out p x) as (λ b. (is_out p x ≡ b) → AreKnown l (cond (not b) (x ∷ filter (λ r. not (is_out p r)) xs) (filter (λ r. not (is_out p r)) xs))) [
      | true ↦ λ is. rest
      | false ↦ λ is. All-cons (λ (r : Row). is_known l r.state ≡ true) x (filter (λ r. not (is_out p r)) xs) (others x.state (All-head (λ (r : Row). is_known k r.state ≡ true) x xs known) is) rest
    ] refl

-- once the rows that are out through those are gone, the others are known so
pub known_left : (p : SessionId → ℕ → Bool) (k l : Receivers) (rows left : List Row) → left ≡ filter (λ r. not (is_out p r)) rows → AreOthers p k l → AreKnown k rows → AreKnown l left
known_left p k l rows left e others known = rw e (known_left_rows p k l rows others known)

-- none that is known is out through consumers that pass
abbrev pub AreNone : (SessionId → ℕ → Bool) → Receivers → Type 0
AreNone p k = (state : RowState) → is_known k state ≡ true → goes_out p state ≡ false

-- then each row stays
pub none_go : (p : SessionId → ℕ → Bool) (k : Receivers) (rows : List Row) → AreNone p k → AreKnown k rows → filter (λ r. not (is_out p r)) rows ≡ rows
none_go p k [] none known = refl
none_go p k (x ∷ xs) none known =
    rw (none x.state (All-head (λ (r : Row). is_known k r.state ≡ true) x xs known)) (ap (λ ys. x ∷ ys) (none_go p k xs none (All-tail (λ (r : Row). is_known k r.state ≡ true) x xs known)))

-- and none comes back
pub none_back : (p : SessionId → ℕ → Bool) (k : Receivers) (rows : List Row) → AreNone p k → AreKnown k rows → map (back (is_out p)) rows ≡ rows
none_back p k [] none known = refl
none_back p k (x ∷ xs) none known =
    rw (none x.state (All-head (λ (r : Row). is_known k r.state ≡ true) x xs known)) (ap (λ ys. x ∷ ys) (none_back p k xs none (All-tail (λ (r : Row). is_known k r.state ≡ true) x xs known)))

-- where nothing changes, the holders follow the rows
pub follows_still : (t : Messages) (rows left : List Row) → left ≡ rows → Follows t t rows left
follows_still t rows left e = rw e (record { holders = λ p. refl; messages = record { same = λ p some. refl; room = omega arith } })

-- of no rows all is known
pub known_none : (k : Receivers) (rows left : List Row) → left ≡ filter (λ r. false) rows → AreKnown k left
known_none k rows left e = rw (e, filter_none rows) (All-nil (λ (r : Row). is_known k r.state ≡ true))

known_back_same_row : (passes : Row → Bool) (k : Receivers) (r : Row) → is_known k r.state ≡ true → is_known k (back passes r).state ≡ true
known_back_same_row passes k r known =
    elim (passes r) as (λ b. is_known k (cond b (record r { state = Waiting }) r).state ≡ true) [
      | true ↦ known_waiting k
      | false ↦ known
    ]

-- rows that wait again are known as before
pub known_back_same : (passes : Row → Bool) (k : Receivers) (rows left : List Row) → left ≡ map (back passes) rows → AreKnown k rows → AreKnown k left
known_back_same passes k rows left e known =
    rw e (All-map (λ (r : Row). is_known k r.state ≡ true) (back passes) rows (All-weaker (λ (r : Row). is_known k r.state ≡ true) (λ (r : Row). is_known k (back passes r).state ≡ true) (λ r h. known_back_same_row passes k r h) rows known))

pub known_no_rows : (k : Receivers) (rows : List Row) → rows ≡ [] → AreKnown k rows
known_no_rows k rows e = rw e (All-nil (λ (r : Row). is_known k r.state ≡ true))

-- where it is known that each row waits, none is out
pub home_known : (k : Receivers) (rows : List Row) → ((state : RowState) → is_known k state ≡ true → state ≡ Waiting) → AreKnown k rows → are_home rows ≡ true
home_known k rows none known =
    ap not (list_any_none is_away rows (All-weaker (λ (r : Row). is_known k r.state ≡ true) (λ r. is_away r ≡ false) (λ r h. ap (goes_out (λ s c. true)) (none r.state h)) rows known))

-- where no row that is known may be out through those, none is
pub none_out : (w : SessionId → ℕ → Bool) (place : ℕ) (receivers : Receivers) (rows : List Row) → ((state : RowState) → is_known receivers state ≡ true → goes_out w state ≡ false) → AreKnown receivers rows → None ≡ find (out_from place w) rows
none_out w place receivers rows none known =
    sym (find_none (out_from place w) rows (All-weaker (λ (r : Row). is_known receivers r.state ≡ true) (λ r. out_from place w r ≡ false) (λ r h. fails_second (is_from place r) (is_out w r) (none r.state h)) rows known))
