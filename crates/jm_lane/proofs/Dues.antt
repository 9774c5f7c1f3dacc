-- When the rows of a lane are due, and what edits leave of that.
use Rattle.std.proofs.Common.{◌≡◌, ℕ, ◌+◌, ◌<◌, ◌≤◌, ◌==◌, nat_lt, List, [], ◌∷◌, ◌++◌, length, get_or, map, take, drop, true, false, Bool, not, ◌&&◌, cond, refl, subst, arith, suc, zero}
use Rattle.std.specs.List.{filter, All}
use Rattle.std.proofs.lemmas.Bool.Decides.{nat_tests}
use Rattle.std.proofs.lemmas.List.{take-append-drop}
use Rattle.std.proofs.lemmas.List.Elements.{All-nil, All-cons, All-head, All-tail, All-append, All-filter, All-map, All-push, All-weaker}
use Rattle.jm_dest.specs.declared.session.SessionId.{SessionId}
use Rattle.jm_machine.specs.declared.state.RowState.TheVariants.{Waiting}
use Rattle.jm_lane.specs.declared.row.Row.{Row}
use Rattle.jm_lane.specs.Rows.{back, is_expired, is_ready, is_waiting, sent, sent_at}
use Rattle.jm_lane.specs.Lanes.{AreDue, AreDueInTurn, IsDueBound}

pub due_lower : (rs : List Row) (a b : ℕ) → a ≤ b → All (IsDueBound b) rs → All (IsDueBound a) rs
due_lower rs a b le = All-weaker (IsDueBound b) (IsDueBound a) (λ r h w. let k = h w in omega (arith, k, le)) rs

turn_filter : (p : Row → Bool) (rs : List Row) → AreDueInTurn rs → AreDueInTurn (filter p rs)
turn_filter p [] h = tt
turn_filter p (x ∷ xs) h =
    elim (p x) as (λ b. AreDueInTurn (cond b (x ∷ filter p xs) (filter p xs))) [
      | true ↦ (All-filter p (λ (y : Row). x.due ≤ y.due) xs h.0, turn_filter p xs h.1)
      | false ↦ turn_filter p xs h.1
    ]

turn_map : (f : Row → Row) → ((r : Row) → (f r).due ≡ r.due) → (rs : List Row) → AreDueInTurn rs → AreDueInTurn (map f rs)
turn_map f same [] h = tt
turn_map f same (x ∷ xs) h =
    (All-map (λ (y : Row). (f x).due ≤ y.due) f xs (All-weaker (λ (y : Row). x.due ≤ y.due) (λ (y : Row). (f x).due ≤ (f y).due) (λ y l. omega (arith, same x, same y, l)) xs h.0), turn_map f same xs h.1)

turn_push : (rs : List Row) (row : Row) → All (λ (r : Row). r.due ≤ row.due) rs → AreDueInTurn rs → AreDueInTurn (rs ++ row ∷ [])
turn_push [] row below h = (All-nil (λ (y : Row). row.due ≤ y.due), tt)
turn_push (x ∷ xs) row below h =
    (All-push (λ (y : Row). x.due ≤ y.due) xs row h.0 (All-head (λ (r : Row). r.due ≤ row.due) x xs below), turn_push xs row (All-tail (λ (r : Row). r.due ≤ row.due) x xs below) h.1)

all_before : (x : Row) (xs : List Row) (row d : Row) → AreDueInTurn (x ∷ xs) → (get_or (x ∷ xs) (length xs) d).due ≤ row.due → All (λ (r : Row). r.due ≤ row.due) (x ∷ xs)
all_before x [] row d h k = All-cons (λ (r : Row). r.due ≤ row.due) x [] k (All-nil (λ (r : Row). r.due ≤ row.due))
all_before x (u ∷ us) row d h k =
    let rest = all_before u us row d h.1 k in
    let one : x.due ≤ u.due = All-head (λ (y : Row). x.due ≤ y.due) u us h.0 in
    let two : u.due ≤ row.due = All-head (λ (r : Row). r.due ≤ row.due) u us rest in
    All-cons (λ (r : Row). r.due ≤ row.due) x (u ∷ us) (omega (arith, one, two)) rest

-- one more row that is not due before the last
pub turn_last : (rs : List Row) (row d : Row) (at : ℕ) → at + 1 ≡ length rs → (get_or rs at d).due ≤ row.due → AreDueInTurn rs → AreDueInTurn (rs ++ row ∷ [])
turn_last [] row d at l k h = absurd (omega (arith, l))
turn_last (x ∷ xs) row d at l k h =
    let e : at ≡ length xs = omega (arith, l) in
    turn_push (x ∷ xs) row (all_before x xs row d h (rw (← e) k)) h

-- rows that go leave the others due as they are
pub dues_filter : (p : Row → Bool) (rs : List Row) (due : ℕ) (turn : Bool) → AreDue rs due turn → AreDue (filter p rs) due turn
dues_filter p rs due turn h = record { bound = All-filter p (IsDueBound due) rs h.bound; turn = λ e. turn_filter p rs (h.turn e) }

sent_at_due : (p : ℕ) (s : SessionId) (c : ℕ) (r : Row) → (sent_at p s c r).due ≡ r.due
sent_at_due p s c r = elim (r.place == p) as (λ b. (cond b (sent s c r) r).due ≡ r.due) [ true ↦ refl | false ↦ refl ]

sent_bound : (p : ℕ) (s : SessionId) (c due : ℕ) (r : Row) → IsDueBound due r → IsDueBound due (sent_at p s c r)
sent_bound p s c due r h = elim (r.place == p) as (λ b. IsDueBound due (cond b (sent s c r) r)) [ true ↦ λ w. absurd (cc) | false ↦ h ]

-- so do rows that go out
pub dues_sent : (p : ℕ) (s : SessionId) (c : ℕ) (rs : List Row) (due : ℕ) (turn : Bool) → AreDue rs due turn → AreDue (map (sent_at p s c) rs) due turn
dues_sent p s c rs due turn h =
    record {
      bound = All-map (IsDueBound due) (sent_at p s c) rs (All-weaker (IsDueBound due) (λ r. IsDueBound due (sent_at p s c r)) (λ r k. sent_bound p s c due r k) rs h.bound);
      turn = λ e. turn_map (sent_at p s c) (sent_at_due p s c) rs (h.turn e);
    }

back_due : (p : Row → Bool) (r : Row) → (back p r).due ≡ r.due
back_due p r = elim (p r) as (λ b. (cond b (record r { state = Waiting }) r).due ≡ r.due) [ true ↦ refl | false ↦ refl ]

-- rows that wait again are due as before
pub dues_back : (p : Row → Bool) (rs : List Row) (due next : ℕ) (turn : Bool) → AreDue rs due turn → All (IsDueBound next) (map (back p) rs) → AreDue (map (back p) rs) next turn
dues_back p rs due next turn h bound = record { bound = bound; turn = λ e. turn_map (back p) (back_due p) rs (h.turn e) }

pub dues_push : (rs : List Row) (row : Row) (due next : ℕ) (turn more : Bool) → AreDue rs due turn → next ≤ due → IsDueBound next row → (more ≡ true → AreDueInTurn (rs ++ row ∷ [])) → AreDue (rs ++ row ∷ []) next more
dues_push rs row due next turn more h le here in_turn = record { bound = All-push (IsDueBound next) rs row (due_lower rs next due le h.bound) here; turn = in_turn }

early_unready : (w e : Bool) (now due : ℕ) → (w ≡ true → now < due) → (w && (e && not (nat_lt now due))) ≡ false
early_unready false e now due h = refl
early_unready true false now due h = refl
early_unready true true now due h = let l = h refl in grind (arith, nat_tests)

-- before the bound no row is ready
pub none_ready : (now due : ℕ) (rs : List Row) → now < due → All (IsDueBound due) rs → All (λ r. is_ready now r ≡ false) rs
none_ready now due rs l =
    All-weaker (IsDueBound due) (λ r. is_ready now r ≡ false) (λ r h. early_unready (is_waiting r) (not (is_expired now r)) now r.due (λ w. let k = h w in omega (arith, k, l))) rs

-- of rows that are due in turn none is ready from the first on that is held back
pub rest_unready : (now i : ℕ) (rs : List Row) (d : Row) → AreDueInTurn rs → i < length rs → now < (get_or rs i d).due → All (λ r. is_ready now r ≡ false) (drop i rs)
rest_unready now i [] d h l e = absurd (omega (arith, l))
rest_unready now zero (x ∷ xs) d h l e =
    All-cons (λ r. is_ready now r ≡ false) x xs (early_unready (is_waiting x) (not (is_expired now x)) now x.due (λ w. e)) (All-weaker (λ (y : Row). x.due ≤ y.due) (λ r. is_ready now r ≡ false) (λ y k. early_unready (is_waiting y) (not (is_expired now y)) now y.due (λ w. omega (arith, k, e))) xs h.0)
rest_unready now (suc i) (x ∷ xs) d h l e = rest_unready now i xs d h.1 (omega (arith, l)) e

-- what all have before a row and from it on, all have
pub all_joined : (P : Row → Type 0) (i : ℕ) (rs : List Row) → All P (take i rs) → All P (drop i rs) → All P rs
all_joined P i rs a b = subst (All P) (take-append-drop i rs) (All-append P (take i rs) (drop i rs) a b)
