-- The first that passes.
use Rattle.std.proofs.Common.{◌≡◌, List, [], ◌∷◌, true, false, Bool, cond, Option, Some, None, refl}
use Rattle.std.specs.List.{filter, find}

-- the first that passes is the first of those that pass
abbrev pub first_of : {X : Type 0} → List X → Option X
first_of [] = None
first_of (x ∷ xs) = Some x

pub find_first : {X : Type 0} (p : X → Bool) (xs : List X) → find p xs ≡ first_of (filter p xs)
find_first p [] = refl
find_first p (x ∷ xs) = elim (p x) as (λ b. cond b (Some x) (find p xs) ≡ first_of (cond b (x ∷ filter p xs) (filter p xs))) [ true ↦ refl | false ↦ find_first p xs ]
