-- The first row from a place on, of two lists and by place.
use Rattle.std.proofs.Common.{◌≡◌, ℕ, ◌+◌, ◌<◌, ◌≤◌, nat_lt, nat_le, min, List, [], ◌∷◌, ◌++◌, true, false, Bool, cond, Some, refl, ap, subst, ◌∙◌, arith, is_some, inl, inr}
use Rattle.std.specs.List.{filter, find}
use Rattle.std.specs.Option.{IsSome, IfSome}
use Rattle.std.proofs.lemmas.Bool.Decides.{leb_tells, nat_tests}
use Rattle.std.proofs.lemmas.List.Elements.{All-weaker, All-append}
use Rattle.jm_dest.specs.Numbers.{long_end}
use Rattle.jm_lane.specs.declared.row.Row.{Row}
use Rattle.jm_lane.specs.Rows.{IsRising, is_from}
use Rattle.jm_lanes.specs.Lists.{sorted}
use Rattle.jm_lane.specs.Lanes.{is_at, is_below, IsPlaceFrom}
use Rattle.jm_lanes.specs.Lanes.{is_lower}
use Rattle.jm_lanes.proofs.Places.{all_sorted, find_has}
use Rattle.jm_lane.proofs.Ranks.{none_below}
use Rattle.jm_lanes.proofs.Ranks.{at_sorted}
use Rattle.jm_lanes.proofs.Found.{find_within}
use Rattle.jm_lane.proofs.From.{empty, some_back}

some_front : (q : Row → Bool) (xs ys : List Row) → IsSome (find q xs) → IsSome (find q (xs ++ ys))
some_front q xs ys h = ap is_some (find_within q xs ys h) ∙ h

-- of two lists the lesser place
pub from_both : (p a b : ℕ) (xs ys : List Row) → IsPlaceFrom p a xs → IsPlaceFrom p b ys → IsPlaceFrom p (min a b) (xs ++ ys)
from_both p a b xs ys h k = record {
  from = let u = h.from in let v = k.from in omega (arith, u, v);
  none = All-append (λ (r : Row). p ≤ r.place → min a b ≤ r.place) xs ys (All-weaker (λ (r : Row). p ≤ r.place → a ≤ r.place) (λ (r : Row). p ≤ r.place → min a b ≤ r.place) (λ r f le. let l = f le in omega (arith, l)) xs h.none) (All-weaker (λ (r : Row). p ≤ r.place → b ≤ r.place) (λ (r : Row). p ≤ r.place → min a b ≤ r.place) (λ r f le. let l = f le in omega (arith, l)) ys k.none);
  there = λ l. elim (leb_tells a b) [ inl t ↦ at_a t.1 l | inr n ↦ at_b n.1 l ];
}
  where
    at_a : a ≤ b → min a b < long_end → IsSome (find (is_at (min a b)) (xs ++ ys))
    at_a le l =
        let is : min a b ≡ a = omega (arith, le) in
        let below : a < long_end = omega (arith, le, l) in
        rw is (some_front (is_at a) xs ys (h.there below))

    at_b : b < a → min a b < long_end → IsSome (find (is_at (min a b)) (xs ++ ys))
    at_b lt l =
        let is : min a b ≡ b = omega (arith, lt) in
        let below : b < long_end = omega (arith, lt, l) in
        rw is (some_back (is_at b) xs ys (k.there below))

pub sorted_from : (p q : ℕ) (xs : List Row) → IsRising (sorted is_lower xs) → IsPlaceFrom p q xs → IsPlaceFrom p q (sorted is_lower xs)
sorted_from p q xs up h = record {
  from = h.from;
  none = all_sorted (λ (r : Row). p ≤ r.place → q ≤ r.place) xs h.none;
  there = λ l. ap is_some (at_sorted q xs up) ∙ h.there l;
}

-- and below the place after the first from it on there is one row more
pub below_more : (p : ℕ) (rs : List Row) (r : Row) → IsRising rs → find (is_from p) rs ≡ Some r → filter (is_below (r.place + 1)) rs ≡ filter (is_below p) rs ++ r ∷ []
below_more p [] r up h = cc
below_more p (x ∷ xs) r up h = go (nat_le p x.place) refl h (below_more p xs r up.1)
  where
    go : (b : Bool) → nat_le p x.place ≡ b → cond b (Some x) (find (is_from p) xs) ≡ Some r → (find (is_from p) xs ≡ Some r → filter (is_below (r.place + 1)) xs ≡ filter (is_below p) xs ++ r ∷ []) → filter (is_below (r.place + 1)) (x ∷ xs) ≡ filter (is_below p) (x ∷ xs) ++ r ∷ []
    go true e f rec =
        let same : x ≡ r = cc in
        let here : nat_lt x.place (x.place + 1) ≡ true = grind (arith, nat_tests) in
        let not_below : nat_lt x.place p ≡ false = grind (arith, nat_tests, e) in
        let after : filter (is_below (x.place + 1)) xs ≡ [] = empty (filter (is_below (x.place + 1)) xs) (none_below (x.place + 1) xs (All-weaker (λ (y : Row). x.place < y.place) (λ (y : Row). x.place + 1 ≤ y.place) (λ y l. omega (arith, l)) xs up.0)) in
        let le : p ≤ x.place = grind (arith, nat_tests, e) in
        let none : filter (is_below p) xs ≡ [] = empty (filter (is_below p) xs) (none_below p xs (All-weaker (λ (y : Row). x.place < y.place) (λ (y : Row). p ≤ y.place) (λ y l. omega (arith, l, le)) xs up.0)) in
        subst (λ (y : Row). filter (is_below (y.place + 1)) (x ∷ xs) ≡ filter (is_below p) (x ∷ xs) ++ y ∷ []) same (rw (here, after, not_below, none) refl)
    go false e f rec =
        let low : nat_lt x.place p ≡ true = grind (arith, nat_tests, e) in
        let above : x.place < r.place = subst (λ o. IfSome o (λ (y : Row). x.place < y.place)) f (find_has (λ (y : Row). x.place < y.place) (is_from p) xs up.0) in
        let under : nat_lt x.place (r.place + 1) ≡ true = grind (arith, nat_tests, above) in
        rw (low, under) (ap (λ ys. x ∷ ys) (rec f))
