-- What the table keeps while rows move and go.
use Rattle.std.proofs.Common.{◌≡◌, ◌≢◌, ℕ, ◌+◌, ◌<◌, ◌≤◌, ◌==◌, List, [], ◌∷◌, ◌++◌, length, get_or, map, drop, true, false, Bool, cond, refl, ap, sym, ◌∙◌, arith}
use Rattle.std.specs.List.{filter, All}
use Rattle.std.proofs.lemmas.Bool.Decides.{nat_tests}
use Rattle.std.proofs.lemmas.Bool.{eq-eqb, ne_eqb}
use Rattle.std.proofs.lemmas.List.Elements.{All-head, All-tail}
use Rattle.std.proofs.lemmas.List.Sums.{sum_by-cons, sum_by-append, get_or-le-sum_by}
use Rattle.jm_lane.specs.declared.row.Row.{Row}
use Rattle.jm_lane.specs.Holders.{Messages, holders_of, rows_at, Follows, Covers, KeepsMessages, GainsHolder, LosesHolder}
use Rattle.jm_lane.proofs.Letting.{row_gone}
use Rattle.jm_lane.proofs.Rolling.{remove_first}

pub same_test : (a b : ℕ) → cond {A = ℕ} (a == b) 1 0 ≡ cond {A = ℕ} (b == a) 1 0
same_test a b = grind (arith, nat_tests)

pub row_first : (p : ℕ) (x : Row) (xs : List Row) → rows_at p (x ∷ xs) ≡ cond {A = ℕ} (x.place == p) 1 0 + rows_at p xs
row_first p x xs = sum_by-cons (λ (r : Row). cond {A = ℕ} (r.place == p) 1 0) x xs

pub rows_both : (p : ℕ) (xs ys : List Row) → rows_at p (xs ++ ys) ≡ rows_at p xs + rows_at p ys
rows_both p xs ys = sum_by-append (λ (r : Row). cond {A = ℕ} (r.place == p) 1 0) xs ys

pub rolled_count : (p : ℕ) (ys : List Row) (d : Row) → 0 < length ys → rows_at p (drop 1 ys ++ get_or ys 0 d ∷ []) ≡ rows_at p ys
rolled_count p [] d l = absurd (omega arith)
rolled_count p (y ∷ ys) d l = omega (arith, rows_both p ys (y ∷ []), row_first p y ys, row_first p y [])

pub follows_same : (origin t : Messages) (init xs ys : List Row) → ((p : ℕ) → rows_at p ys ≡ rows_at p xs) → Follows origin t init xs → Follows origin t init ys
follows_same origin t init xs ys e f = record { holders = λ p. omega (arith, e p, f.holders p); messages = f.messages }

pub covers_same : (t : Messages) (xs ys : List Row) → ((p : ℕ) → rows_at p ys ≡ rows_at p xs) → Covers t xs → Covers t ys
covers_same t xs ys e c = record { held = λ p. omega (arith, e p, c.held p) }

pub first_gone : (origin t t' : Messages) (init ys : List Row) (row : Row) → 0 < length ys → row ≡ get_or ys 0 row → Follows origin t init ys → Covers t ys → LosesHolder t t' row.place → KeepsMessages t t' → Follows origin t' init (drop 1 ys) × Covers t' (drop 1 ys)
first_gone origin t t' init ys row l is f c released kept = rw (← remove_first ys) (row_gone origin t t' init ys 0 row l is f c released kept)

pub map_count : (f : Row → Row) → ((r : Row) → (f r).place ≡ r.place) → (p : ℕ) (xs : List Row) → rows_at p (map f xs) ≡ rows_at p xs
map_count f place p [] = refl
map_count f place p (x ∷ xs) =
    let e : cond {A = ℕ} ((f x).place == p) 1 0 ≡ cond {A = ℕ} (x.place == p) 1 0 = rw (place x) refl in
    omega (arith, e, row_first p (f x) (map f xs), row_first p x xs, map_count f place p xs)

pub filter_count : (q : Row → Bool) (p : ℕ) (xs : List Row) → rows_at p (filter q xs) ≤ rows_at p xs
filter_count q p [] = omega arith
filter_count q p (x ∷ xs) =
    elim (q x) as (λ b. rows_at p (cond b (x ∷ filter q xs) (filter q xs)) ≤ rows_at p (x ∷ xs)) [
      | true ↦ omega (arith, row_first p x (filter q xs), row_first p x xs, filter_count q p xs)
      | false ↦ omega (arith, row_first p x xs, filter_count q p xs)
    ]

pub follows_held : (origin t : Messages) (xs : List Row) (row : Row) → GainsHolder origin t row.place → KeepsMessages origin t → Follows origin t xs (xs ++ row ∷ [])
follows_held origin t xs row h k =
    record { holders = λ p. omega (arith, h.holders p, same_test p row.place, rows_both p xs (row ∷ []), row_first p row []); messages = k }

pub holder_there : (t : Messages) (ys : List Row) (at : ℕ) (row : Row) → Covers t ys → at < length ys → row ≡ get_or ys at row → 0 < holders_of t row.place
holder_there t ys at row c l is =
    let one : cond {A = ℕ} ((get_or ys at row).place == row.place) 1 0 ≡ 1 = rw (eq-eqb (get_or ys at row).place row.place (ap (λ (r : Row). r.place) (sym is))) refl in
    omega (arith, one, get_or-le-sum_by (λ (r : Row). cond {A = ℕ} (r.place == row.place) 1 0) ys at row l, c.held row.place)

-- where no row is at the place, none is counted
pub none_at : (q : ℕ) (ys : List Row) → All (λ (y : Row). y.place ≢ q) ys → rows_at q ys ≡ 0
none_at q [] a = refl
none_at q (y ∷ ys) a =
    let ne = ne_eqb y.place q (All-head (λ (y : Row). y.place ≢ q) y ys a) in
    let e : cond {A = ℕ} (y.place == q) 1 0 ≡ 0 = rw ne refl in
    omega (arith, e, row_first q y ys, none_at q ys (All-tail (λ (y : Row). y.place ≢ q) y ys a))

-- what is covered stays so while the holders follow
pub covers_after : (old new : Messages) (before after : List Row) → Covers old before → Follows old new before after → Covers new after
covers_after old new before after c f = record { held = λ p. omega (arith, c.held p, f.holders p) }

-- one step after another
pub follows_then : (origin second third : Messages) (us vs ws : List Row) → ((p : ℕ) → rows_at p ws ≤ rows_at p vs) → Follows origin second us vs → Follows second third vs ws → Follows origin third us ws
follows_then origin second third us vs ws fewer f g = record {
  holders = λ p. omega (arith, f.holders p, g.holders p);
  messages = record { same = λ p h. g.messages.same p h ∙ f.messages.same p (omega (arith, h, g.holders p, fewer p)); room = omega (arith, g.messages.room, f.messages.room) };
}
