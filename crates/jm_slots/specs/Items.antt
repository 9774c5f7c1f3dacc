-- What stands in slots, of which some are empty.
use Rattle.std.specs.Prelude.{ℕ, ◌+◌, List, [], ◌∷◌, length, slice_index_or, take, Option, Some, None}
use Rattle.std.specs.List.{filter_map}

-- the items that are there, in order
abbrev pub items : {A : Type 0} → List (Option A) → List A
items slots = filter_map (λ o. o) slots

-- what stands in the slot, or none where it is empty or there is no such slot
abbrev pub item_in : {A : Type 0} → List (Option A) → ℕ → Option A
item_in slots slot = slice_index_or slots slot None

-- how many items stand before the slot
abbrev pub items_before : {A : Type 0} → List (Option A) → ℕ → ℕ
items_before slots slot = length (items (take slot slots))

-- the slots that are empty, where they are counted from that number on
abbrev pub gaps_from : {A : Type 0} → ℕ → List (Option A) → List ℕ
gaps_from first [] = []
gaps_from first (None ∷ slots) = first ∷ gaps_from (first + 1) slots
gaps_from first (Some item ∷ slots) = gaps_from (first + 1) slots
