-- Rows without their places.
use Rattle.std.proofs.Common.{◌≡◌, ℕ, Bool, List, [], ◌∷◌, ◌++◌, map, length, suc, refl, ap, ◌∙◌, arith}
use Rattle.std.specs.Prelude.{filter, not}
use Rattle.std.proofs.lemmas.Bool.Decides.{nat_tests}
use Rattle.jm_dest.specs.declared.session.SessionId.{SessionId}
use Rattle.jm_machine.specs.declared.state.Row.{Row}
use Rattle.jm_machine.specs.declared.state.PlacedRow.{PlacedRow}
use Rattle.jm_machine.specs.Rows.{is_out, given_back, is_next, live, change_first, deliver, bare, change_placed, live_placed, deliver_placed}
use Rattle.jm_machine.specs.Machine.{settled_rows, returned_rows}

-- of two lists
pub bare-append : (xs ys : List PlacedRow) → bare (xs ++ ys) ≡ bare xs ++ bare ys
bare-append [] ys = refl
bare-append (x ∷ xs) ys = ap (λ t. x.row ∷ t) (bare-append xs ys)

bare-live : (now : ℕ) (xs : List PlacedRow) → bare (live_placed now xs) ≡ live now (bare xs)
bare-live now [] = refl
bare-live now (x ∷ xs) = grind (arith, nat_tests, bare-live now xs)

bare-at : (n : ℕ) (rs : List Row) → bare (map (λ r. record { place = n; row = r }) rs) ≡ rs
bare-at n [] = refl
bare-at n (r ∷ rs) = ap (λ t. r ∷ t) (bare-at n rs)

bare-change : (p : Row → Bool) (f : Row → List Row) (xs : List PlacedRow) → bare (change_placed p f xs) ≡ change_first p f (bare xs)
bare-change p f [] = refl
bare-change p f (x ∷ xs) = grind (arith, nat_tests, bare-change p f xs, bare-at x.place (f x.row), bare-append (map (λ r. record { place = x.place; row = r }) (f x.row)) xs)

-- the next one is delivered
pub bare-deliver : (now : ℕ) (f : Row → List Row) (xs : List PlacedRow) → bare (deliver_placed now f xs) ≡ deliver now f (bare xs)
bare-deliver now f xs =
    bare-change (is_next now (live now (bare xs))) f (live_placed now xs)
    ∙ ap (change_first (is_next now (live now (bare xs))) f) (bare-live now xs)

-- settled, and waiting again
pub bare-settled : (p : SessionId → ℕ → Bool) (xs : List PlacedRow) → bare (settled_rows p xs) ≡ filter (λ r. not (is_out p r)) (bare xs)
bare-settled p [] = refl
bare-settled p (x ∷ xs) = grind (arith, nat_tests, bare-settled p xs)

pub bare-returned : (p : SessionId → ℕ → Bool) (xs : List PlacedRow) → bare (returned_rows p xs) ≡ map (given_back p) (bare xs)
bare-returned p [] = refl
bare-returned p (x ∷ xs) = ap (λ t. given_back p x.row ∷ t) (bare-returned p xs)

-- as many as with their places
pub bare-length : (xs : List PlacedRow) → length (bare xs) ≡ length xs
bare-length [] = refl
bare-length (x ∷ xs) = ap (λ n. suc n) (bare-length xs)
