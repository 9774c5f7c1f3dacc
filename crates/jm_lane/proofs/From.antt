-- The first row from a place on.
use Rattle.std.proofs.Common.{◌≡◌, ℕ, ◌<◌, ◌≤◌, ◌==◌, nat_lt, nat_le, nat_cmp, min, List, [], ◌∷◌, ◌++◌, length, true, false, Bool, cond, Option, Some, None, refl, ap, arith, is_some, inl, inr}
use Rattle.std.specs.List.{filter, find, All, slice_get}
use Rattle.std.specs.Option.{IsSome}
use Rattle.std.specs.Ordering.{ord_min}
use Rattle.std.proofs.lemmas.Grind.{common_steps}
use Rattle.std.proofs.lemmas.Bool.{ltb-true, ltb-false, eq-eqb, ne_eqb}
use Rattle.std.proofs.lemmas.Bool.Decides.{leb_tells, eqb_tells, nat_tests}
use Rattle.std.proofs.lemmas.List.Elements.{All-nil, All-cons, All-head, All-tail, All-weaker}
use Rattle.jm_dest.specs.Numbers.{long_end}
use Rattle.jm_lane.specs.declared.row.Row.{Row}
use Rattle.jm_lane.specs.Rows.{IsRising, is_from}
use Rattle.jm_lane.specs.Lanes.{is_at, is_below, IsPlaceFrom}
use Rattle.jm_lane.proofs.Rising.{find_none}
use Rattle.jm_lane.proofs.Ranks.{none_below}

-- the place of a row, or one past all places
abbrev pub place_of : Option Row → ℕ
place_of None = long_end
place_of (Some r) = r.place

pub nothing_from : (p : ℕ) → p ≤ long_end → IsPlaceFrom p long_end []
nothing_from p le = record { from = le; none = All-nil _; there = λ l. absurd (omega (arith, l)) }

-- a row before it changes nothing
before : (p q : ℕ) (x : Row) (xs : List Row) → x.place < p → IsPlaceFrom p q xs → IsPlaceFrom p q (x ∷ xs)
before p q x xs low h = record {
  from = h.from;
  none = All-cons (λ (r : Row). p ≤ r.place → q ≤ r.place) x xs (λ le. absurd (omega (arith, low, le))) h.none;
  there = λ l. let from = h.from in rw (ne_eqb x.place q (omega (arith, low, from))) (h.there l);
}

-- the first from it on is the least
pub here : (p : ℕ) (x : Row) (xs : List Row) → p ≤ x.place → All (λ (y : Row). x.place < y.place) xs → IsPlaceFrom p x.place (x ∷ xs)
here p x xs le up = record {
  from = le;
  none = All-cons (λ (r : Row). p ≤ r.place → x.place ≤ r.place) x xs (λ h. omega arith) (All-weaker (λ (y : Row). x.place < y.place) (λ (r : Row). p ≤ r.place → x.place ≤ r.place) (λ y l h. omega (arith, l)) xs up);
  there = λ l. rw (eq-eqb x.place x.place refl) refl;
}

-- of rows by place, the one that all before the place stand before
pub lane_from : (p : ℕ) (rs : List Row) → p ≤ long_end → IsRising rs → IsPlaceFrom p (place_of (slice_get rs (length (filter (is_below p) rs)))) rs
lane_from p [] le h = nothing_from p le
lane_from p (x ∷ xs) le h = go (nat_lt x.place p) refl (lane_from p xs le h.1)
  where
    go : (b : Bool) → nat_lt x.place p ≡ b → IsPlaceFrom p (place_of (slice_get xs (length (filter (is_below p) xs)))) xs → IsPlaceFrom p (place_of (slice_get (x ∷ xs) (length (cond b (x ∷ filter (is_below p) xs) (filter (is_below p) xs))))) (x ∷ xs)
    go true e rest = before p (place_of (slice_get xs (length (filter (is_below p) xs)))) x xs (ltb-true x.place p e) rest
    go false e rest =
        let high : p ≤ x.place = ltb-false x.place p e in
        rw (none_below p xs (All-weaker (λ (y : Row). x.place < y.place) (λ (r : Row). p ≤ r.place) (λ y l. omega (arith, l, high)) xs h.0)) (here p x xs high h.0)

pub some_back : (q : Row → Bool) (xs ys : List Row) → IsSome (find q ys) → IsSome (find q (xs ++ ys))
some_back q [] ys h = h
some_back q (x ∷ xs) ys h = go (q x) (some_back q xs ys h)
  where
    go : (b : Bool) → IsSome (find q (xs ++ ys)) → IsSome (cond b (Some x) (find q (xs ++ ys)))
    go true r = refl
    go false r = r

-- a row before the place is passed over
tail_from : (p q : ℕ) (x : Row) (xs : List Row) → x.place < p → IsPlaceFrom p q (x ∷ xs) → IsPlaceFrom p q xs
tail_from p q x xs lt h =
    let from = h.from in
    let other : (x.place == q) ≡ false = ne_eqb x.place q (omega (arith, lt, from)) in
    record { from = from; none = All-tail (λ (r : Row). p ≤ r.place → q ≤ r.place) x xs h.none; there = λ l. rw other at (h.there l) }

-- nothing stands before the least
none_less : (q : ℕ) (x : Row) (xs : List Row) → q < x.place → All (λ (y : Row). x.place < y.place) xs → find (is_at q) (x ∷ xs) ≡ None
none_less q x xs lt up =
    rw (ne_eqb x.place q (omega (arith, lt))) (find_none (is_at q) xs (All-weaker (λ (y : Row). x.place < y.place) (λ y. is_at q y ≡ false) (λ y l. ne_eqb y.place q (omega (arith, l, lt))) xs up))

-- in rows by place, the row at that place is the first from the place on
pub first_from : (p q : ℕ) (rs : List Row) → IsRising rs → All (λ (r : Row). r.place < long_end) rs → IsPlaceFrom p q rs → find (is_at q) rs ≡ find (is_from p) rs
first_from p q [] up low h = refl
first_from p q (x ∷ xs) up low h = elim (leb_tells p x.place) [
  | inl t ↦ first t.1
  | inr n ↦ later n.1 (first_from p q xs up.1 (All-tail (λ (r : Row). r.place < long_end) x xs low) (tail_from p q x xs n.1 h))
]
  where
    later : x.place < p → find (is_at q) xs ≡ find (is_from p) xs → find (is_at q) (x ∷ xs) ≡ find (is_from p) (x ∷ xs)
    later lt rest =
        let from = h.from in
        let other : (x.place == q) ≡ false = ne_eqb x.place q (omega (arith, lt, from)) in
        let under : nat_le p x.place ≡ false = grind (arith, nat_tests, lt) in
        rw (other, under) rest

    first : p ≤ x.place → find (is_at q) (x ∷ xs) ≡ find (is_from p) (x ∷ xs)
    first le =
        let over : nat_le p x.place ≡ true = grind (arith, nat_tests, le) in
        let least : q ≤ x.place = All-head (λ (r : Row). p ≤ r.place → q ≤ r.place) x xs h.none le in
        elim (eqb_tells x.place q) [
          | inl e ↦ rw (eq-eqb x.place q e.1, over) refl
          | inr n ↦
              let ne = n.1 in
              let lt : q < x.place = omega (arith, least, ne) in
              let end : x.place < long_end = All-head (λ (r : Row). r.place < long_end) x xs low in
              let some = h.there (omega (arith, lt, end)) in
              let none : find (is_at q) (x ∷ xs) ≡ None = none_less q x xs lt up.0 in
              absurd (let no : is_some (find (is_at q) (x ∷ xs)) ≡ false = ap is_some none in cc)
        ]

-- the lesser of two
pub min_is : (a b : ℕ) → ord_min nat_cmp a b ≡ min a b
min_is a b = grind (arith, common_steps)

pub empty : (xs : List Row) → length xs ≡ 0 → xs ≡ []
empty [] h = refl
empty (x ∷ xs) h = absurd (omega (arith, h))

-- nothing is below the place 0
pub below_none : (rs : List Row) → filter (is_below 0) rs ≡ []
below_none rs = empty (filter (is_below 0) rs) (none_below 0 rs (λ k d l. omega arith))

-- where no row is from a place on, all are below it
pub below_all : (p : ℕ) (rs : List Row) → find (is_from p) rs ≡ None → filter (is_below p) rs ≡ rs
below_all p [] h = refl
below_all p (x ∷ xs) h = go (nat_le p x.place) refl h (below_all p xs)
  where
    go : (b : Bool) → nat_le p x.place ≡ b → cond b (Some x) (find (is_from p) xs) ≡ None → (find (is_from p) xs ≡ None → filter (is_below p) xs ≡ xs) → filter (is_below p) (x ∷ xs) ≡ x ∷ xs
    go true e f rec = absurd (cc)
    go false e f rec = let low : nat_lt x.place p ≡ true = grind (arith, nat_tests, e) in rw low (ap (λ ys. x ∷ ys) (rec f))
