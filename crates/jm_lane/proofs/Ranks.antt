-- How many rows are below a place, and which row so many stand before.
use Rattle.std.proofs.Common.{◌≡◌, ℕ, ◌+◌, ◌<◌, ◌≤◌, nat_lt, List, [], ◌∷◌, length, get_or, true, false, Bool, cond, Option, Some, None, refl, ap, arith, suc, zero}
use Rattle.std.specs.List.{filter, find, All, slice_get}
use Rattle.std.specs.List.Sorted.{IsPartitionPoint, IsPartitionedBy}
use Rattle.std.proofs.lemmas.Bool.{lt-ltb, le-ltb, ltb-true, ltb-false, eq-eqb, ne_eqb}
use Rattle.std.proofs.lemmas.List.Elements.{All-cons, All-head, All-tail, All-weaker}
use Rattle.jm_lane.specs.declared.row.Row.{Row}
use Rattle.jm_lane.specs.Rows.{IsRising}
use Rattle.jm_lane.specs.Lanes.{is_at, is_below}
use Rattle.jm_lane.proofs.Rising.{find_none}

-- where a test parts a list is how many pass it
pub parted : {X : Type 0} (q : X → Bool) (xs : List X) (i : ℕ) → i ≤ length xs → IsPartitionPoint (λ y. q y ≡ true) (λ y. q y ≡ false) xs i → length (filter q xs) ≡ i
parted q [] i l h = omega (arith, l)
parted q (x ∷ xs) zero l h =
    rw (h.1 0 x (omega arith) (omega arith)) (parted q xs zero (omega arith) ((λ k d a b. absurd (omega arith)), (λ k d a b. h.1 (suc k) d (omega arith) (omega arith))))
parted q (x ∷ xs) (suc i) l h =
    rw (h.0 0 x (omega arith) (omega arith)) (omega (arith, parted q xs i (omega arith) ((λ k d a b. h.0 (suc k) d (omega arith) (omega arith)), (λ k d a b. h.1 (suc k) d (omega arith) (omega arith)))))

-- rows that rise are not below those before them
rising_at : (rs : List Row) (i j : ℕ) (d : Row) → IsRising rs → i ≤ j → j < length rs → (get_or rs i d).place ≤ (get_or rs j d).place
rising_at [] i j d h le l = absurd (omega arith)
rising_at (x ∷ xs) zero zero d h le l = omega arith
rising_at (x ∷ xs) zero (suc j) d h le l = let up : x.place < (get_or xs j d).place = h.0 j d (omega arith) in omega (arith, up)
rising_at (x ∷ xs) (suc i) zero d h le l = absurd (omega arith)
rising_at (x ∷ xs) (suc i) (suc j) d h le l = rising_at xs i j d h.1 (omega arith) (omega arith)

-- so a place parts them
pub below_parts : (p : ℕ) (rs : List Row) → IsRising rs → IsPartitionedBy (is_below p) rs
below_parts p rs h i j d le l e =
    let low : (get_or rs j d).place < p = ltb-true (get_or rs j d).place p e in
    lt-ltb (get_or rs i d).place p (omega (arith, low, rising_at rs i j d h le l))

-- nothing is below the first of rows that rise
pub none_below : (p : ℕ) (rs : List Row) → All (λ (r : Row). p ≤ r.place) rs → length (filter (is_below p) rs) ≡ 0
none_below p [] a = refl
none_below p (x ∷ xs) a = rw (le-ltb x.place p (All-head (λ (r : Row). p ≤ r.place) x xs a)) (none_below p xs (All-tail (λ (r : Row). p ≤ r.place) x xs a))

-- all are below what is above all
pub all_below : (p : ℕ) (rs : List Row) → All (λ (r : Row). r.place < p) rs → length (filter (is_below p) rs) ≡ length rs
all_below p [] a = refl
all_below p (x ∷ xs) a = rw (lt-ltb x.place p (All-head (λ (r : Row). r.place < p) x xs a)) (omega (arith, all_below p xs (All-tail (λ (r : Row). r.place < p) x xs a)))

above_all : (p : ℕ) (x : Row) (xs : List Row) → p ≤ x.place → All (λ (y : Row). x.place < y.place) xs → All (λ (r : Row). p + 1 ≤ r.place) xs
above_all p x xs le h = All-weaker (λ (y : Row). x.place < y.place) (λ (r : Row). p + 1 ≤ r.place) (λ y k. omega (arith, k, le)) xs h

none_at : (p : ℕ) (xs : List Row) → All (λ (r : Row). p + 1 ≤ r.place) xs → find (is_at p) xs ≡ None
none_at p xs a = find_none (is_at p) xs (All-weaker (λ (r : Row). p + 1 ≤ r.place) (λ r. is_at p r ≡ false) (λ r k. ne_eqb r.place p (omega (arith, k))) xs a)

weaken : (p : ℕ) (xs : List Row) → All (λ (r : Row). p + 1 ≤ r.place) xs → All (λ (r : Row). p ≤ r.place) xs
weaken p = All-weaker (λ (r : Row). p + 1 ≤ r.place) (λ (r : Row). p ≤ r.place) (λ r k. omega (arith, k))

-- the row at a place, where there is one, is that which all below it stand before
abbrev pub kept_at : ℕ → Option Row → Option Row
kept_at p None = None
kept_at p (Some r) = cond (is_at p r) (Some r) None

pub found_at : (p : ℕ) (rs : List Row) → IsRising rs → find (is_at p) rs ≡ kept_at p (slice_get rs (length (filter (is_below p) rs)))
found_at p [] h = refl
found_at p (x ∷ xs) h = go (nat_lt x.place p) refl (found_at p xs h.1)
  where
    go : (b : Bool) → nat_lt x.place p ≡ b → find (is_at p) xs ≡ kept_at p (slice_get xs (length (filter (is_below p) xs))) → find (is_at p) (x ∷ xs) ≡ kept_at p (slice_get (x ∷ xs) (length (cond b (x ∷ filter (is_below p) xs) (filter (is_below p) xs))))
    go true e rest =
        let low : x.place < p = ltb-true x.place p e in
        rw (ne_eqb x.place p (omega (arith, low))) rest
    go false e rest =
        let high : p ≤ x.place = ltb-false x.place p e in
        let above = above_all p x xs high h.0 in
        rw (none_below p xs (weaken p xs above)) (ap (λ o. cond (is_at p x) (Some x) o) (none_at p xs above))

-- the row that so many stand before is that of the greatest place that no more are below of
pub ranked : (rs : List Row) (p n : ℕ) → IsRising rs → length (filter (is_below p) rs) ≤ n → n < length (filter (is_below (p + 1)) rs) → slice_get rs n ≡ find (is_at p) rs
ranked [] p n h low high = absurd (omega (arith, high))
ranked (x ∷ xs) p n h low high = go (nat_lt x.place p) refl n low high (ranked xs p)
  where
    here : (b : Bool) → nat_lt x.place (p + 1) ≡ b → (n : ℕ) → n < length (cond b (x ∷ filter (is_below (p + 1)) xs) (filter (is_below (p + 1)) xs)) → p ≤ x.place → length (filter (is_below (p + 1)) xs) ≡ 0 → slice_get (x ∷ xs) n ≡ find (is_at p) (x ∷ xs)
    here false e n high more rest = absurd (omega (arith, high, rest))
    here true e (suc m) high more rest = absurd (omega (arith, high, rest))
    here true e zero high more rest =
        let less : x.place < p + 1 = ltb-true x.place (p + 1) e in
        rw (eq-eqb x.place p (omega (arith, less, more))) refl

    go : (b : Bool) → nat_lt x.place p ≡ b → (n : ℕ) → length (cond b (x ∷ filter (is_below p) xs) (filter (is_below p) xs)) ≤ n → n < length (filter (is_below (p + 1)) (x ∷ xs)) → ((m : ℕ) → IsRising xs → length (filter (is_below p) xs) ≤ m → m < length (filter (is_below (p + 1)) xs) → slice_get xs m ≡ find (is_at p) xs) → slice_get (x ∷ xs) n ≡ find (is_at p) (x ∷ xs)
    go true e zero low high rec = absurd (omega (arith, low))
    go true e (suc m) low high rec =
        let less : x.place < p = ltb-true x.place p e in
        let two : length (filter (is_below (p + 1)) (x ∷ xs)) ≡ length (filter (is_below (p + 1)) xs) + 1 = rw (lt-ltb x.place (p + 1) (omega (arith, less))) (omega arith) in
        rw (ne_eqb x.place p (omega (arith, less))) (rec m h.1 (omega (arith, low)) (omega (arith, high, two)))
    go false e n low high rec =
        let more : p ≤ x.place = ltb-false x.place p e in
        let above = above_all p x xs more h.0 in
        let rest : length (filter (is_below (p + 1)) xs) ≡ 0 = none_below (p + 1) xs above in
        here (nat_lt x.place (p + 1)) refl n high more rest

-- the row at an index stands behind as many as are below its place
pub rank_at : (rs : List Row) (i : ℕ) (d : Row) → IsRising rs → i < length rs → length (filter (is_below (get_or rs i d).place) rs) ≡ i
rank_at [] i d h l = absurd (omega arith)
rank_at (x ∷ xs) zero d h l =
    none_below x.place (x ∷ xs) (All-cons (λ (r : Row). x.place ≤ r.place) x xs (omega arith) (All-weaker (λ (y : Row). x.place < y.place) (λ (r : Row). x.place ≤ r.place) (λ y k. omega (arith, k)) xs h.0))
rank_at (x ∷ xs) (suc i) d h l =
    let up : x.place < (get_or xs i d).place = h.0 i d (omega arith) in
    rw (lt-ltb x.place (get_or xs i d).place up) (omega (arith, rank_at xs i d h.1 (omega arith)))
