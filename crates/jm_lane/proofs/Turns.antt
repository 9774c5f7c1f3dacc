-- Rows that expire in turn, and what edits leave of that.
use Rattle.std.proofs.Common.{◌≡◌, ℕ, ◌+◌, ◌<◌, ◌≤◌, ◌==◌, nat_le, List, [], ◌∷◌, ◌++◌, length, get_or, map, take, drop, true, false, Bool, not, ◌&&◌, ◌||◌, cond, refl, ap, sym, subst, ◌∙◌, arith, suc, zero, ◌⊎◌, inl, inr, min, length-take}
use Rattle.std.specs.List.{filter, All}
use Rattle.std.proofs.lemmas.List.{drop-drop, drop_all, take-append-drop}
use Rattle.std.proofs.lemmas.Bool.Decides.{nat_tests}
use Rattle.std.proofs.lemmas.List.Elements.{All-nil, All-cons, All-head, All-tail, All-append, All-filter, All-map, All-weaker, All-drop}
use Rattle.jm_lane.specs.declared.row.Row.{Row}
use Rattle.jm_lane.specs.Rows.{stays, is_waiting, is_expired, sent, sent_at}
use Rattle.jm_lane.specs.Lanes.{IsLane, IsBound, in_turn, IsSteady}
use Rattle.jm_dest.specs.declared.session.SessionId.{SessionId}
use Rattle.jm_lane.proofs.Rising.{rising-filter}
use Rattle.jm_lane.proofs.Sieve.{IsSieved, filter_all}

turns : (a b c : ℕ) → ((b == 0) || (not (a == 0) && nat_le a b)) ≡ true → ((c == 0) || (not (b == 0) && nat_le b c)) ≡ true → ((c == 0) || (not (a == 0) && nat_le a c)) ≡ true
turns a b c h k = grind (arith, nat_tests)

later : (a b now : ℕ) → ((b == 0) || (not (a == 0) && nat_le a b)) ≡ true → (not (a == 0) && nat_le a now) ≡ false → (not (b == 0) && nat_le b now) ≡ false
later a b now h k = grind (arith, nat_tests)

pub steady-filter : (p : Row → Bool) (rs : List Row) → IsSteady rs → IsSteady (filter p rs)
steady-filter p [] h = tt
steady-filter p (x ∷ xs) h =
    elim (p x) as (λ b. IsSteady (cond b (x ∷ filter p xs) (filter p xs))) [
      | true ↦ (All-filter p (λ y. in_turn x y ≡ true) xs h.0, steady-filter p xs h.1)
      | false ↦ steady-filter p xs h.1
    ]

same_turn : (f : Row → Row) → ((r : Row) → (f r).expiration ≡ r.expiration) → (x y : Row) → in_turn (f x) (f y) ≡ in_turn x y
same_turn f same x y = rw (same x, same y) refl

pub steady-map : (f : Row → Row) → ((r : Row) → (f r).expiration ≡ r.expiration) → (rs : List Row) → IsSteady rs → IsSteady (map f rs)
steady-map f same [] h = tt
steady-map f same (x ∷ xs) h =
    (All-map (λ y. in_turn (f x) y ≡ true) f xs (All-weaker (λ y. in_turn x y ≡ true) (λ y. in_turn (f x) (f y) ≡ true) (λ y e. same_turn f same x y ∙ e) xs h.0), steady-map f same xs h.1)

pub sent_at_expiration : (p : ℕ) (s : SessionId) (c : ℕ) (r : Row) → (sent_at p s c r).expiration ≡ r.expiration
sent_at_expiration p s c r = elim (r.place == p) as (λ b. (cond b (sent s c r) r).expiration ≡ r.expiration) [ true ↦ refl | false ↦ refl ]

all_before : (x : Row) (xs : List Row) (y d : Row) → IsSteady (x ∷ xs) → in_turn (get_or (x ∷ xs) (length xs) d) y ≡ true → All (λ z. in_turn z y ≡ true) (x ∷ xs)
all_before x [] y d h k = All-cons (λ z. in_turn z y ≡ true) x [] k (All-nil (λ z. in_turn z y ≡ true))
all_before x (u ∷ us) y d h k =
    let rest = all_before u us y d h.1 k in
    All-cons (λ z. in_turn z y ≡ true) x (u ∷ us) (turns x.expiration u.expiration y.expiration (All-head (λ z. in_turn x z ≡ true) u us h.0) (All-head (λ z. in_turn z y ≡ true) u us rest)) rest

pub steady-push : (rs : List Row) (row : Row) → All (λ r. in_turn r row ≡ true) rs → IsSteady rs → IsSteady (rs ++ row ∷ [])
steady-push [] row above h = (All-nil (λ y. in_turn row y ≡ true), tt)
steady-push (x ∷ xs) row above h =
    (All-append (λ y. in_turn x y ≡ true) xs (row ∷ []) h.0 (All-cons (λ y. in_turn x y ≡ true) row [] (All-head (λ r. in_turn r row ≡ true) x xs above) (All-nil (λ y. in_turn x y ≡ true))), steady-push xs row (All-tail (λ r. in_turn r row ≡ true) x xs above) h.1)

pub steady-last : (rs : List Row) (row d : Row) (at : ℕ) → at + 1 ≡ length rs → in_turn (get_or rs at d) row ≡ true → IsSteady rs → IsSteady (rs ++ row ∷ [])
steady-last [] row d at l k h = absurd (omega (arith, l))
steady-last (x ∷ xs) row d at l k h =
    let e : at ≡ length xs = omega (arith, l) in
    steady-push (x ∷ xs) row (all_before x xs row d h (rw (← e) k)) h

unexpired_stays : (w e : Bool) → e ≡ false → (not w || not e) ≡ true
unexpired_stays true e h = rw h refl
unexpired_stays false e h = refl

pub steady_rest : (now k : ℕ) (rs : List Row) (d : Row) → k < length rs → IsSteady rs → is_expired now (get_or rs k d) ≡ false → All (λ r. stays now r ≡ true) (drop k rs)
steady_rest now k [] d l h e = absurd (omega arith)
steady_rest now zero (x ∷ xs) d l h e =
    All-cons (λ r. stays now r ≡ true) x xs (unexpired_stays (is_waiting x) (is_expired now x) e) (All-weaker (λ y. in_turn x y ≡ true) (λ r. stays now r ≡ true) (λ y t. unexpired_stays (is_waiting y) (is_expired now y) (later x.expiration y.expiration now t e)) xs h.0)
steady_rest now (suc k) (x ∷ xs) d l h e = steady_rest now k xs d (omega arith) h.1 e

away_stays : (w e : Bool) → w ≡ false → (not w || not e) ≡ true
away_stays w e h = rw h refl

pub away : (now : ℕ) (rs : List Row) → All (λ r. is_waiting r ≡ false) rs → All (λ r. stays now r ≡ true) rs
away now rs = All-weaker (λ r. is_waiting r ≡ false) (λ r. stays now r ≡ true) (λ r h. away_stays (is_waiting r) (is_expired now r) h) rs

pub keep_low : (p : Row → Bool) (n : ℕ) (rs : List Row) → All (λ r. p r ≡ true) (take n rs) → n ≤ length rs → (take n (filter p rs) ≡ take n rs) × (n ≤ length (filter p rs))
keep_low p zero rs a l = (refl, omega arith)
keep_low p (suc n) [] a l = absurd (omega arith)
keep_low p (suc n) (x ∷ xs) a l =
    let rest = keep_low p n xs (All-tail (λ r. p r ≡ true) x (take n xs) a) (omega arith) in
    rw (All-head (λ r. p r ≡ true) x (take n xs) a) (ap (λ zs. x ∷ zs) rest.0, omega (arith, rest.1))

next_is : (n : ℕ) → n + 1 ≡ suc n
next_is n = omega arith

pub behind_filter : (P : Row → Type 0) (p : Row → Bool) (n : ℕ) (rs : List Row) → All P (drop n rs) → All P (drop n (filter p rs))
behind_filter P p zero rs a = All-filter p P rs a
behind_filter P p (suc n) [] a = a
behind_filter P p (suc n) (x ∷ xs) a =
    let rest = behind_filter P p n xs a in
    elim (p x) as (λ b. All P (drop (suc n) (cond b (x ∷ filter p xs) (filter p xs)))) [
      | true ↦ rest
      | false ↦ subst (λ m. All P (drop m (filter p xs))) (next_is n) (subst (All P) (drop-drop 1 n (filter p xs)) (All-drop P 1 (drop n (filter p xs)) rest))
    ]

pub behind_least : (P : Row → Type 0) (n m : ℕ) (rs : List Row) → (m ≡ n) ⊎ (length rs ≤ m) → All P (drop n rs) → All P (drop m rs)
behind_least P n m rs (inl e) a = rw e a
behind_least P n m rs (inr l) a = rw (drop_all m rs l) (All-nil P)

pub lane_kept : (p : Row → Bool) (rs : List Row) (pr low high least top : ℕ) → IsLane rs pr low high least → All (λ r. p r ≡ true) (take low rs) → top ≤ length (filter p rs) → (top ≡ high) ⊎ (length (filter p rs) ≤ top) → IsLane (filter p rs) pr low top least
lane_kept p rs pr low high least top h pass le which =
    let kept = keep_low p low rs pass h.low_in in
    record {
      same = All-filter p (λ (r : Row). r.priority ≡ pr) rs h.same;
      rising = rising-filter p rs h.rising;
      low_in = kept.1;
      high_in = le;
      before = rw kept.0 h.before;
      behind = behind_least (λ r. is_waiting r ≡ true) high top (filter p rs) which (behind_filter (λ r. is_waiting r ≡ true) p high rs h.behind);
      bound = All-filter p (IsBound least) rs h.bound;
    }

pub min_is : (a b : ℕ) → (min a b ≡ a) ⊎ (b ≤ min a b)
min_is a b = go (nat_le a b) refl
  where
    go : (t : Bool) → nat_le a b ≡ t → (min a b ≡ a) ⊎ (b ≤ min a b)
    go true e = inl (grind (arith, nat_tests))
    go false e = inr (grind (arith, nat_tests))

pub is_expired_by : (now : ℕ) (row : Row) (b : Bool) → b ≡ is_expired now row → b ≡ false → is_expired now row ≡ false
is_expired_by now row b e h = sym e ∙ h

pub stays_gone : (now : ℕ) (row : Row) (b w : Bool) → w ≡ is_waiting row → w ≡ true → b ≡ is_expired now row → b ≡ true → stays now row ≡ false
stays_gone now row b w f g e h =
    let waiting : is_waiting row ≡ true = sym f ∙ g in
    let gone : is_expired now row ≡ true = sym e ∙ h in
    rw (waiting, gone) refl

pub stays_away : (now : ℕ) (row : Row) (w : Bool) → w ≡ is_waiting row → w ≡ false → stays now row ≡ true
stays_away now row w f g =
    let out : is_waiting row ≡ false = sym f ∙ g in
    rw out refl

pub sieved_low : (p : Row → Bool) (init : List Row) (low : ℕ) → All (λ r. p r ≡ true) (take low init) → low ≤ length init → IsSieved p init init low low
sieved_low p init low a l =
    let all : filter p (take low init) ≡ take low init = filter_all p (take low init) a in
    record { items = rw all (sym (take-append-drop low init)); count = rw all (omega (arith, length-take low init)) }

pub top_is : (high n len top : ℕ) → top ≡ min high n → n ≡ len → (top ≡ high) ⊎ (len ≤ top)
top_is high n len top e f = elim (min_is high n) [ inl l ↦ inl (e ∙ l) | inr l ↦ inr (omega (arith, l, e, f)) ]
