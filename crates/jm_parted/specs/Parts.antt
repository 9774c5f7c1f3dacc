-- The parts of a list whose items have owners (ours).
use Rattle.std.specs.Prelude.{ℕ, suc, ◌==◌, List, [], ◌∷◌, if◌then◌else◌}

-- the items of an owner, in their order: those that stand where it stands among the owners
abbrev pub of_owner : {T : Type 0} → ℕ → List ℕ → List T → List T
of_owner k [] items = []
of_owner k (owner ∷ owners) [] = []
of_owner k (owner ∷ owners) (item ∷ items) = if owner == k then item ∷ of_owner k owners items else of_owner k owners items

-- how often it stands among the owners
abbrev pub count_of : ℕ → List ℕ → ℕ
count_of k [] = 0
count_of k (owner ∷ owners) = if owner == k then suc (count_of k owners) else count_of k owners
