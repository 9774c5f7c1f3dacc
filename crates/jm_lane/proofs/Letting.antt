-- A row goes, and lets its message go.
use Rattle.std.proofs.Common.{◌≡◌, ℕ, ◌+◌, ◌<◌, ◌==◌, List, length, get_or, Bool, cond, refl, ap, ◌∙◌, arith}
use Rattle.std.specs.List.{remove, count_by}
use Rattle.std.proofs.lemmas.List.Sums.{sum_by-remove}
use Rattle.std.proofs.lemmas.Bool.Decides.{nat_tests}
use Rattle.jm_lane.specs.declared.row.Row.{Row}
use Rattle.jm_lane.specs.Holders.{Messages, rows_at, Follows, Covers, KeepsMessages, LosesHolder}

count_remove : (p : Row → Bool) (xs : List Row) (i : ℕ) (d : Row) → i < length xs → count_by p (remove xs i) + cond (p (get_or xs i d)) 1 0 ≡ count_by p xs
count_remove p xs i d l = sum_by-remove (λ x. cond (p x) 1 0) xs i d l

same_test : (a b : ℕ) → cond {A = ℕ} (a == b) 1 0 ≡ cond {A = ℕ} (b == a) 1 0
same_test a b = grind (arith, nat_tests)

pub follows_none : (t : Messages) (rows : List Row) → Follows t t rows rows
follows_none t rows = record { holders = λ p. refl; messages = record { same = λ p h. refl; room = omega arith } }

pub row_gone : (origin t t' : Messages) (init ys : List Row) (at : ℕ) (row : Row) → at < length ys → row ≡ get_or ys at row → Follows origin t init ys → Covers t ys → LosesHolder t t' row.place → KeepsMessages t t' → Follows origin t' init (remove ys at) × Covers t' (remove ys at)
row_gone origin t t' init ys at row l is f c released kept =
    let count : (p : ℕ) → rows_at p (remove ys at) + cond (p == row.place) 1 0 ≡ rows_at p ys = λ p.
    rw (same_test p row.place, ap {B = ℕ} (λ (r : Row). cond {A = ℕ} (r.place == p) 1 0) is) (count_remove (λ (r : Row). r.place == p) ys at row l) in (
      record {
        holders = λ p. omega (arith, count p, released.holders p, f.holders p);
        messages = record { same = λ p h. kept.same p h ∙ f.messages.same p (let r = released.holders p in omega (arith, r, h)); room = omega (arith, kept.room, f.messages.room) };
      },
      record { held = λ p. omega (arith, count p, released.holders p, c.held p) },
    )
