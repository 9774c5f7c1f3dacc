-- Where the first row of a lane stands that passes, of those from a place on.
use Rattle.std.proofs.Common.{◌≡◌, ◌≢◌, ℕ, ◌+◌, ◌<◌, ◌≤◌, ◌==◌, nat_lt, nat_le, List, [], ◌∷◌, length, get_or, take, drop, true, false, Bool, not, ◌&&◌, ◌||◌, cond, Option, Some, None, refl, subst, arith, suc, zero, ◌⊎◌, inl, inr, max, ◌-◌}
use Rattle.std.specs.List.{filter, find, All, slice_get}
use Rattle.std.proofs.lemmas.Bool.{le-ltb, ltb-true, ltb-false}
use Rattle.std.proofs.lemmas.Bool.Decides.{nat_tests, eqb_tells, leb_tells}
use Rattle.std.proofs.lemmas.List.{get_or-take, get_or-drop, length-take}
use Rattle.std.proofs.lemmas.List.Elements.{All-weaker}
use Rattle.jm_dest.specs.declared.session.SessionId.{SessionId}
use Rattle.jm_machine.specs.declared.state.RowState.{RowState}
use Rattle.jm_machine.specs.declared.state.RowState.TheVariants.{Waiting, Out}
use Rattle.jm_machine.specs.Rows.{waits, goes_out}
use Rattle.jm_lane.specs.declared.row.Row.{Row}
use Rattle.jm_lane.specs.Rows.{IsRising, is_from, is_waiting, is_expired, is_out}
use Rattle.jm_lane.specs.Lanes.{IsBound, IsSteady, is_below}
use Rattle.jm_lane.specs.Cursors.{has_lapsed, lapsed_from, is_under, improves, NoneBetween}
use Rattle.jm_lane.proofs.Rising.{find_none}
use Rattle.jm_lane.proofs.Ranks.{none_below}

pub fails_first : (a b : Bool) → a ≡ false → (a && b) ≡ false
fails_first true b h = absurd (cc)
fails_first false b h = refl

pub fails_second : (a b : Bool) → b ≡ false → (a && b) ≡ false
fails_second true b h = h
fails_second false b h = refl

pub pass_both : (a b : Bool) → a ≡ true → b ≡ true → (a && b) ≡ true
pass_both true true h k = refl
pass_both true false h k = k
pass_both false b h k = h

-- from a row on that is not of a lower place than the best, none is
under_later : (best : Option Row) (rs : List Row) (i k : ℕ) (d e : Row) → IsRising rs → i ≤ k → k < length rs → is_under best (get_or rs i d) ≡ false → is_under best (get_or rs k e) ≡ false
under_later None rs i k d e up le l h = absurd (cc)
under_later (Some b) [] i k d e up le l h = absurd (omega (arith, l))
under_later (Some b) (x ∷ xs) zero zero d e up le l h = h
under_later (Some b) (x ∷ xs) zero (suc k) d e up le l h =
    let above : x.place < (get_or xs k e).place = up.0 k e (omega (arith, l)) in
    let high : b.place ≤ x.place = ltb-false x.place b.place h in
    le-ltb (get_or xs k e).place b.place (omega (arith, above, high))
under_later (Some b) (x ∷ xs) (suc i) zero d e up le l h = absurd (omega (arith, le))
under_later (Some b) (x ∷ xs) (suc i) (suc k) d e up le l h = under_later (Some b) xs i k d e up.1 (omega (arith, le)) (omega (arith, l)) h

pub none_above : (best : Option Row) (p : Row → Bool) (rs : List Row) (from i end : ℕ) (d : Row) → IsRising rs → i < length rs → is_under best (get_or rs i d) ≡ false → NoneBetween (improves best p) rs from i → end ≡ length rs → NoneBetween (improves best p) rs from end
none_above best p rs from i end d up within e h is k x le l = elim (leb_tells i k) [
  | inl t ↦ fails_first (is_under best (get_or rs k x)) (p (get_or rs k x)) (under_later best rs i k d x up t.1 (omega (arith, l, is)) e)
  | inr n ↦ h k x le n.1
]

-- and of rows that expire in turn, none is expired after one that is not
not_yet : (a b now : ℕ) → ((b == 0) || (not (a == 0) && nat_le a b)) ≡ true → (not (a == 0) && nat_le a now) ≡ false → (not (b == 0) && nat_le b now) ≡ false
not_yet a b now h k = grind (arith, nat_tests)

expired_later : (now : ℕ) (rs : List Row) (i k : ℕ) (d e : Row) → IsSteady rs → i ≤ k → k < length rs → is_expired now (get_or rs i d) ≡ false → is_expired now (get_or rs k e) ≡ false
expired_later now [] i k d e turn le l h = absurd (omega (arith, l))
expired_later now (x ∷ xs) zero zero d e turn le l h = h
expired_later now (x ∷ xs) zero (suc k) d e turn le l h = not_yet x.expiration (get_or xs k e).expiration now (turn.0 k e (omega (arith, l))) h
expired_later now (x ∷ xs) (suc i) zero d e turn le l h = absurd (omega (arith, le))
expired_later now (x ∷ xs) (suc i) (suc k) d e turn le l h = expired_later now xs i k d e turn.1 (omega (arith, le)) (omega (arith, l)) h

pub none_in_turn : (best : Option Row) (now : ℕ) (rs : List Row) (from i end : ℕ) (d : Row) → IsSteady rs → i < length rs → is_expired now (get_or rs i d) ≡ false → NoneBetween (improves best (has_lapsed now)) rs from i → end ≡ length rs → NoneBetween (improves best (has_lapsed now)) rs from end
none_in_turn best now rs from i end d turn within e h is k x le l = elim (leb_tells i k) [
  | inl t ↦
      let r : Row = get_or rs k x in
      fails_second (is_under best r) (has_lapsed now r) (fails_second (is_waiting r) (is_expired now r) (expired_later now rs i k d x turn t.1 (omega (arith, l, is)) e))
  | inr n ↦ h k x le n.1
]

-- no row is out from `high` on
pub none_behind : (best : Option Row) (p : Row → Bool) (rs : List Row) (from i high end : ℕ) → ((r : Row) → is_waiting r ≡ true → p r ≡ false) → All (λ r. is_waiting r ≡ true) (drop high rs) → high ≤ i → NoneBetween (improves best p) rs from i → end ≡ length rs → NoneBetween (improves best p) rs from end
none_behind best p rs from i high end out behind le h is k x m l = elim (leb_tells i k) [
  | inl t ↦
      let r : Row = get_or rs k x in
      let at : high + (k - high) ≡ k = let over = t.1 in omega (arith, le, over) in
      let waits : is_waiting r ≡ true = subst (λ j. is_waiting (get_or rs j x) ≡ true) at (rw (← get_or-drop high rs (k - high) x) (behind (k - high) x (omega (arith, length_behind high rs, l, is, at)))) in
      fails_second (is_under best r) (p r) (out r waits)
  | inr n ↦ h k x m n.1
]
  where
    length_behind : (n : ℕ) (zs : List Row) → length zs ≤ length (drop n zs) + n
    length_behind zero zs = omega arith
    length_behind (suc n) [] = omega arith
    length_behind (suc n) (z ∷ zs) = omega (arith, length_behind n zs)

-- a row that so many of lower places stand before is from the place on, and each of those is not
from_there : (p : ℕ) (rs : List Row) (k : ℕ) (d : Row) → IsRising rs → length (filter (is_below p) rs) ≤ k → k < length rs → is_from p (get_or rs k d) ≡ true
from_there p [] k d up le l = absurd (omega (arith, l))
from_there p (x ∷ xs) k d up le l = go (nat_lt x.place p) refl (λ j a b. from_there p xs j d up.1 a b) k le l
  where
    go : (b : Bool) → nat_lt x.place p ≡ b → ((j : ℕ) → length (filter (is_below p) xs) ≤ j → j < length xs → is_from p (get_or xs j d) ≡ true) → (k : ℕ) → length (cond b (x ∷ filter (is_below p) xs) (filter (is_below p) xs)) ≤ k → k < length (x ∷ xs) → is_from p (get_or (x ∷ xs) k d) ≡ true
    go true e rest zero le l = absurd (omega (arith, le))
    go true e rest (suc k) le l = rest k (omega (arith, le)) (omega (arith, l))
    go false e rest zero le l = let high : p ≤ x.place = ltb-false x.place p e in grind (arith, nat_tests, high)
    go false e rest (suc k) le l =
        let high : p ≤ x.place = ltb-false x.place p e in
        let above : x.place < (get_or xs k d).place = up.0 k d (omega (arith, l)) in
        grind (arith, nat_tests, high, above)

before_it : (p : ℕ) (rs : List Row) (k : ℕ) (d : Row) → IsRising rs → k < length (filter (is_below p) rs) → is_from p (get_or rs k d) ≡ false
before_it p [] k d up l = absurd (omega (arith, l))
before_it p (x ∷ xs) k d up l = go (nat_lt x.place p) refl (λ j a. before_it p xs j d up.1 a) k l
  where
    go : (b : Bool) → nat_lt x.place p ≡ b → ((j : ℕ) → j < length (filter (is_below p) xs) → is_from p (get_or xs j d) ≡ false) → (k : ℕ) → k < length (cond b (x ∷ filter (is_below p) xs) (filter (is_below p) xs)) → is_from p (get_or (x ∷ xs) k d) ≡ false
    go true e rest zero l = let low : x.place < p = ltb-true x.place p e in grind (arith, nat_tests, low)
    go true e rest (suc k) l = rest k (omega (arith, l))
    go false e rest k l =
        let high : p ≤ x.place = ltb-false x.place p e in
        absurd (omega (arith, l, none_below p xs (All-weaker (λ (y : Row). x.place < y.place) (λ (y : Row). p ≤ y.place) (λ y m. omega (arith, m, high)) xs up.0)))

-- the three tests of a row, in one
both_of : (u f q : Bool) → (u && q) ≡ true → f ≡ true → (u && (f && q)) ≡ true
both_of true true q h k = h
both_of true false q h k = k
both_of false f q h k = h

not_both_of : (u f q : Bool) → (u && q) ≡ false → (u && (f && q)) ≡ false
not_both_of true true q h = h
not_both_of true false q h = refl
not_both_of false f q h = refl

not_from : (u f q : Bool) → f ≡ false → (u && (f && q)) ≡ false
not_from u false q h = fails_second u false refl
not_from u true q h = absurd (cc)

-- a walk from an index on finds the first row from a place on, where none before the index is such a one
pub found_from : (best : Option Row) (p : ℕ) (q : Row → Bool) (rs : List Row) (low below from at : ℕ) → IsRising rs → below ≡ length (filter (is_below p) rs) → All (λ r. q r ≡ false) (take low rs) → low ≤ length rs → from ≤ max low below → at ≤ length rs → NoneBetween (improves best q) rs from at → All (λ r. improves best (λ r. is_from p r && q r) r ≡ false) (take at rs)
found_from best p q rs low below from at up is before low_in le within h k d l =
    let short : k < at = omega (arith, l, length-take at rs, within) in
    let r : Row = get_or rs k d in
    rw (get_or-take at rs k d short) (elim (leb_tells from k) [
      | inl t ↦ not_both_of (is_under best r) (is_from p r) (q r) (h k d t.1 short)
      | inr n ↦ elim (leb_tells low k) [
        | inl t ↦
            let lt = n.1 in
            let over = t.1 in
            not_from (is_under best r) (is_from p r) (q r) (before_it p rs k d up (omega (arith, lt, over, le, is)))
        | inr m ↦
            let lt = m.1 in
            let out : q r ≡ false = subst (λ (z : Row). q z ≡ false) (get_or-take low rs k d lt) (before k d (omega (arith, lt, length-take low rs, low_in))) in
            fails_second (is_under best r) (is_from p r && q r) (fails_second (is_from p r) (q r) out)
      ]
    ])

pub passes_from : (best : Option Row) (p : ℕ) (q : Row → Bool) (rs : List Row) (at : ℕ) (d : Row) → IsRising rs → length (filter (is_below p) rs) ≤ at → at < length rs → improves best q (get_or rs at d) ≡ true → improves best (λ r. is_from p r && q r) (get_or rs at d) ≡ true
passes_from best p q rs at d up le l e =
    let r : Row = get_or rs at d in
    both_of (is_under best r) (is_from p r) (q r) e (from_there p rs at d up le l)

-- a row that waits is not expired before the bound
not_lapsed : (w : Bool) (now least expiration : ℕ) → (w ≡ true → expiration ≢ 0 → least ≤ expiration) → now < least → (w && (not (expiration == 0) && nat_le expiration now)) ≡ false
not_lapsed false now least e bound lt = refl
not_lapsed true now least e bound lt = elim (eqb_tells e 0) [
  | inl z ↦ rw z.1 refl
  | inr n ↦ let le = bound refl n.1 in fails_second (not (e == 0)) (nat_le e now) (grind (arith, nat_tests, le, lt))
]

pub none_lapsed : (best : Option Row) (now least place : ℕ) (rs : List Row) → All (IsBound least) rs → now < least → find (improves best (lapsed_from place now)) rs ≡ None
none_lapsed best now least place rs bound lt =
    find_none (improves best (lapsed_from place now)) rs (All-weaker (IsBound least) (λ r. improves best (lapsed_from place now) r ≡ false) (λ r h.
    fails_second (is_under best r) (lapsed_from place now r) (fails_second (is_from place r) (has_lapsed now r) (not_lapsed (is_waiting r) now least r.expiration h lt))) rs bound)

-- what waits is not out, nor has it lapsed where it is out
pub low_not_lapsed : (now : ℕ) (rs : List Row) → All (λ r. is_waiting r ≡ false) rs → All (λ r. has_lapsed now r ≡ false) rs
low_not_lapsed now rs = All-weaker (λ r. is_waiting r ≡ false) (λ r. has_lapsed now r ≡ false) (λ r e. fails_first (is_waiting r) (is_expired now r) e) rs

-- what passes and does not improve is not under the best
pub not_under : (u q : Bool) → (u && q) ≡ false → q ≡ true → u ≡ false
not_under true q h k = absurd (cc)
not_under false q h k = refl

pub under_and : (u q : Bool) → (u && q) ≡ true → (u ≡ true) × (q ≡ true)
under_and true q h = (refl, h)
under_and false q h = absurd (cc)

pub under_or : (u q : Bool) → q ≡ true → ((u ≡ true) × ((u && q) ≡ true)) ⊎ (u ≡ false)
under_or true q h = inl (refl, h)
under_or false q h = inr refl

pub waits_not_out : (p : SessionId → ℕ → Bool) (r : Row) → is_waiting r ≡ true → is_out p r ≡ false
waits_not_out p r h = go r.state h
  where
    go : (s : RowState) → waits s ≡ true → goes_out p s ≡ false
    go Waiting h = refl
    go (Out s c) h = absurd (cc)

-- past the end no row stands
pub past_end : (rs : List Row) (n : ℕ) → length rs ≤ n → slice_get rs n ≡ None
past_end [] n l = refl
past_end (x ∷ xs) zero l = absurd (omega (arith, l))
past_end (x ∷ xs) (suc n) l = past_end xs n (omega (arith, l))

pub few_below : (p : Row → Bool) (rs : List Row) → length (filter p rs) ≤ length rs
few_below p [] = omega arith
few_below p (x ∷ xs) = elim (p x) as (λ b. length (cond b (x ∷ filter p xs) (filter p xs)) ≤ length (x ∷ xs)) [ true ↦ omega (arith, few_below p xs) | false ↦ omega (arith, few_below p xs) ]
