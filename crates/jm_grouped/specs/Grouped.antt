-- Lists of values in order of coming, as callers see them, and where equal ones stand.
use Rattle.std.specs.Prelude.{ℕ, ◌+◌, Bool, List, [], ◌∷◌, Option, Some, None, if◌then◌else◌}

-- the items in order of coming, and for how many more there is room
pub record GroupedItems (T : Type 0) : Type 0 where
  pub items : List T
  pub spare : ℕ

-- the items of the slots that are taken, in order of coming
abbrev pub items_of : {T V : Type 0} → List T → List (Option V) → List T
items_of [] slots = []
items_of (x ∷ items) [] = []
items_of (x ∷ items) (None ∷ slots) = items_of items slots
items_of (x ∷ items) (Some held ∷ slots) = x ∷ items_of items slots

-- where the items stand that are equal to the value, where they are counted from that number on
abbrev pub indexes_from : {T : Type 0} → (T → T → Bool) → ℕ → List T → T → List ℕ
indexes_from eq first [] value = []
indexes_from eq first (x ∷ items) value =
    if eq x value then first ∷ indexes_from eq (first + 1) items value else indexes_from eq (first + 1) items value

-- where the items stand that are equal to the value
abbrev pub indexes_of : {T : Type 0} → (T → T → Bool) → List T → T → List ℕ
indexes_of eq items value = indexes_from eq 0 items value
