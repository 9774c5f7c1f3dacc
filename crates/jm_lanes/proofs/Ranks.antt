-- How many rows by place are below a place, and which of them is at one.
use Rattle.std.proofs.Common.{◌≡◌, ◌≢◌, ℕ, ◌≤◌, ◌==◌, List, [], ◌∷◌, length, true, false, Bool, cond, refl, ap, sym, ◌∙◌, arith}
use Rattle.std.specs.List.{filter, find, All}
use Rattle.std.proofs.lemmas.Bool.{eqb-true, ne_eqb}
use Rattle.std.proofs.lemmas.List.Elements.{All-head, All-tail}
use Rattle.jm_lane.specs.declared.row.Row.{Row}
use Rattle.jm_lane.specs.Rows.{IsRising}
use Rattle.jm_lanes.specs.Lists.{sorted}
use Rattle.jm_lane.specs.Lanes.{is_at, is_below}
use Rattle.jm_lanes.specs.Lanes.{is_lower, IsApart}
use Rattle.jm_lanes.proofs.Places.{sorted-filter, apart_from_rising}
use Rattle.jm_lanes.proofs.Pushing.{length_sorted}
use Rattle.jm_lanes.proofs.Order.{find_first, first_of}

-- rows by place have as many below a place, and the same at it
pub below_sorted : (p : ℕ) (xs : List Row) → IsRising (sorted is_lower xs) → length (filter (is_below p) (sorted is_lower xs)) ≡ length (filter (is_below p) xs)
below_sorted p xs h = ap length (sym (sorted-filter (is_below p) xs h)) ∙ length_sorted (filter (is_below p) xs)

-- no two are at it
one_at : (p : ℕ) (xs : List Row) → IsApart xs → length (filter (is_at p) xs) ≤ 1
one_at p [] h = omega arith
one_at p (x ∷ xs) h = go (x.place == p) refl (one_at p xs h.1)
  where
    others : (q : ℕ) (ys : List Row) → All (λ (y : Row). y.place ≢ q) ys → length (filter (is_at q) ys) ≡ 0
    others q [] a = refl
    others q (y ∷ ys) a = rw (ne_eqb y.place q (All-head (λ (y : Row). y.place ≢ q) y ys a)) (others q ys (All-tail (λ (y : Row). y.place ≢ q) y ys a))

    go : (b : Bool) → (x.place == p) ≡ b → length (filter (is_at p) xs) ≤ 1 → length (cond b (x ∷ filter (is_at p) xs) (filter (is_at p) xs)) ≤ 1
    go true e rest =
        let same : x.place ≡ p = eqb-true x.place p e in
        omega (arith, others p xs (rw (← same) h.0))
    go false e rest = rest

sorted_one : (zs : List Row) → length zs ≤ 1 → sorted is_lower zs ≡ zs
sorted_one [] l = refl
sorted_one (z ∷ []) l = refl
sorted_one (z ∷ y ∷ ys) l = absurd (omega (arith, l))

pub at_sorted : (p : ℕ) (xs : List Row) → IsRising (sorted is_lower xs) → find (is_at p) (sorted is_lower xs) ≡ find (is_at p) xs
at_sorted p xs h =
    find_first (is_at p) (sorted is_lower xs) ∙ ap first_of (sym (sorted-filter (is_at p) xs h) ∙ sorted_one (filter (is_at p) xs) (one_at p xs (apart_from_rising xs h))) ∙ sym (find_first (is_at p) xs)
