-- Places in lists: what an index that was looked for says, and what stands at one.
use Rattle.std.proofs.Common.{◌≡◌, ◌<◌, ◌≤◌, ℕ, Bool, true, false, cond, List, [], ◌∷◌, length, refl, ap, arith, Some, None, zero, suc}
use Rattle.std.specs.Prelude.{position, nat_lt}
use Rattle.std.specs.List.{All, position_or_len}
use Rattle.std.proofs.lemmas.Bool.Decides.{nat_tests}
use Rattle.std.proofs.lemmas.List.Elements.{All-nil, All-cons}
use Rattle.jm_machine.specs.declared.state.PlacedRow.{PlacedRow}
use Rattle.jm_stations.specs.Backlogs.{Backlog, changed_at}

-- what an index that was looked for says
pub found_at : {A : Type 0} (p : A → Bool) (xs : List A) (i : ℕ) → position p xs ≡ Some i → (position_or_len p xs ≡ i) × (i < length xs)
found_at {A} p xs i h = go (position_or_len p xs) (length xs) (nat_lt (position_or_len p xs) (length xs)) refl h
  where
    go : (n m : ℕ) (b : Bool) → nat_lt n m ≡ b → cond b (Some n) None ≡ Some i → (n ≡ i) × (i < m)
    go n m true e h = let same : n ≡ i = cc in (same, grind (arith, nat_tests))
    go n m false e h = cc

pub found_none : {A : Type 0} (p : A → Bool) (xs : List A) → position p xs ≡ None → length xs ≤ position_or_len p xs
found_none {A} p xs h = go (position_or_len p xs) (length xs) (nat_lt (position_or_len p xs) (length xs)) refl h
  where
    go : (n m : ℕ) (b : Bool) → nat_lt n m ≡ b → cond b (Some n) None ≡ None → m ≤ n
    go n m true e h = cc
    go n m false e h = grind (arith, nat_tests)

-- where nothing is found, nothing passes
pub fails_all : {A : Type 0} (p : A → Bool) (xs : List A) → length xs ≤ position_or_len p xs → All (λ x. p x ≡ false) xs
fails_all p [] h = All-nil (λ x. p x ≡ false)
fails_all p (x ∷ xs) h = go (p x) refl (fails_all p xs)
  where
    go : (b : Bool) → p x ≡ b → (length xs ≤ position_or_len p xs → All (λ y. p y ≡ false) xs) → All (λ y. p y ≡ false) (x ∷ xs)
    go true e rest = absurd (omega (arith, rw e at h))
    go false e rest = All-cons (λ y. p y ≡ false) x xs e (rest (omega (arith, rw e at h)))

-- the rows of a backlog, changed
abbrev pub with : (List PlacedRow → List PlacedRow) → Backlog → Backlog
with g b = record b { rows = g b.rows }

-- a delivery
pub length-changed : (i : ℕ) (f : Backlog → Backlog) (bs : List Backlog) → length (changed_at i f bs) ≡ length bs
length-changed i f [] = refl
length-changed zero f (b ∷ bs) = refl
length-changed (suc i) f (b ∷ bs) = ap suc (length-changed i f bs)
