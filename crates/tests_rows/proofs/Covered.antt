-- What is known where no row is from a place on.
use Rattle.std.proofs.Common.{◌≡◌, ℕ, ◌+◌, ◌<◌, ◌≤◌, nat_le, List, [], ◌∷◌, true, false, Bool, cond, Option, Some, None, is_some, refl, arith}
use Rattle.std.specs.List.{find, All}
use Rattle.std.proofs.lemmas.Bool.Decides.{nat_tests}
use Rattle.std.proofs.lemmas.List.Elements.{All-nil, All-cons}
use Rattle.jm_lane.specs.declared.row.Row.{Row}
use Rattle.jm_lane.specs.Rows.{is_from}
use Rattle.jm_pending.specs.Rows.{Held}
use Rattle.jm_lane.specs.Holders.{Messages, Covers, holders_of, rows_at}

pub none_of : (o : Option Row) → is_some o ≡ false → o ≡ None
none_of None h = refl
none_of (Some r) h = absurd (cc)

-- where no row is from a place on, all are below it
pub all_below : (p : ℕ) (rows : List Row) → find (is_from p) rows ≡ None → All (λ (r : Row). r.place < p) rows
all_below p [] h = All-nil (λ (r : Row). r.place < p)
all_below p (x ∷ xs) h = go (nat_le p x.place) refl h (all_below p xs)
  where
    go : (b : Bool) → nat_le p x.place ≡ b → cond b (Some x) (find (is_from p) xs) ≡ None → (find (is_from p) xs ≡ None → All (λ (r : Row). r.place < p) xs) → All (λ (r : Row). r.place < p) (x ∷ xs)
    go true e f rest = absurd (cc)
    go false e f rest = All-cons (λ (r : Row). r.place < p) x xs (grind (arith, nat_tests, e)) (rest f)

-- where a message is put with one holder, rows are added that its holders follow, and it is released, each row has still
-- its holder: n holders come and go, and the rows at its place become `rows` from `few`
pub still_covers : (n old put added left few rows : ℕ) → put ≡ old + n → added + few ≡ put + rows → left + n ≡ added → few ≤ old → rows ≤ left
still_covers n old put added left few rows a b c d = omega (arith, a, b, c, d)

-- other room leaves each row its holder
pub roomy_covers : (t u : Messages) (h k : Held) (n m : ℕ) → u ≡ record t { spare = n } → k ≡ record h { room = m } → Covers t h.rows → (p : ℕ) → rows_at p k.rows ≤ holders_of u p
roomy_covers t u h k n m a b c p = rw (a, b) (c.held p)
