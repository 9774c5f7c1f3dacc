-- Which items stay, as marks say.
use Rattle.std.specs.Prelude.{ℕ, List, [], ◌∷◌, nat_lt, if◌then◌else◌}

-- the items whose marks are below the number
abbrev pub marked_below : {X : Type 0} → ℕ → List ℕ → List X → List X
marked_below gone [] items = []
marked_below gone (mark ∷ marks) [] = []
marked_below gone (mark ∷ marks) (x ∷ items) = if nat_lt mark gone then x ∷ marked_below gone marks items else marked_below gone marks items
