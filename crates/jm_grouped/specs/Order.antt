-- The order of slots by their items, and what is found in it.
use Rattle.std.specs.Prelude.{◌≡◌, ℕ, ◌<◌, ◌≤◌, ◌+◌, Bool, true, false, ◌&&◌, ◌||◌, List, [], ◌∷◌, filter, length, map, slice_index_or, is_some, Option, Some, None}
use Rattle.std.specs.List.{All, AllPairs, Contains}
use Rattle.std.specs.Ordering.{is_eq, is_gt, is_lt}
use Rattle.std.specs.declared.cmp.Ordering.{Ordering}
use Rattle.std.specs.declared.cmp.Ordering.TheVariants.{Equal}
use Rattle.jm_slots.specs.Items.{item_in, items_before}

-- the item of the slot comes before the value, or is equal to it where those are counted too
abbrev pub is_counted : {T : Type 0} → (T → T → Ordering) → List T → T → Bool → ℕ → Bool
is_counted cmp items value and_equal slot =
    let side = cmp (slice_index_or items slot value) value in
    is_lt side || and_equal && is_eq side

-- the item of the first slot is not above that of the second, and where neither is above the other the first slot is the lower
pub record IsBefore {T : Type 0} (cmp : T → T → Ordering) (items : List T) (i j : ℕ) : Type 0 where
  pub not_above : (d : T) → is_gt (cmp (slice_index_or items i d) (slice_index_or items j d)) ≡ false
  pub in_turn : (d : T) → cmp (slice_index_or items i d) (slice_index_or items j d) ≡ Equal → i < j

-- slots in the order of their items: each comes before all later ones
pub record IsRising {T : Type 0} (cmp : T → T → Ordering) (items : List T) (order : List ℕ) : Type 0 where
  pub within : All (λ i. i < length items) order
  pub rising : AllPairs (IsBefore cmp items) order

-- whether the slot is taken
abbrev pub is_taken : {V : Type 0} → List (Option V) → ℕ → Bool
is_taken slots slot = is_some (item_in slots slot)

-- slots in the order of their items, and each that is taken is there
pub record IsOrder {T V : Type 0} (cmp : T → T → Ordering) (items : List T) (slots : List (Option V)) (order : List ℕ) : Type 0 where
  pub rises : IsRising cmp items order
  pub whole : (slot : ℕ) → is_taken slots slot ≡ true → Contains order slot

-- a slot of each item, found by their order, and room for a mark of each
pub record IsGrouped {T V : Type 0} (cmp : T → T → Ordering) (items : List T) (slots : List (Option V)) (order marks : List ℕ) (room : ℕ) : Type 0 where
  pub ordered : IsOrder cmp items slots order
  pub even : length slots ≡ length items
  pub unmarked : marks ≡ []
  pub fits : length items ≤ room

-- those slots of the order whose items are equal to the value, in rising order
pub record IsGroup {T : Type 0} (eq : T → T → Bool) (items : List T) (order : List ℕ) (value : T) (group : List ℕ) : Type 0 where
  pub rising : AllPairs (λ i j. i < j) group
  pub equal : All (λ i. (i < length items) × (eq (slice_index_or items i value) value ≡ true)) group
  pub whole : (slot : ℕ) → Contains order slot → eq (slice_index_or items slot value) value ≡ true → Contains group slot

-- the indexes of those slots that are taken
abbrev pub indexes_in : {V : Type 0} → List (Option V) → List ℕ → List ℕ
indexes_in slots places = map (items_before slots) (filter (is_taken slots) places)

-- for each slot that is taken how many of those stand before it, where so many stand before them all; or the mark of an empty one
abbrev pub marks_of : {V : Type 0} → ℕ → ℕ → List (Option V) → List ℕ
marks_of before gone [] = []
marks_of before gone (None ∷ slots) = gone ∷ marks_of before gone slots
marks_of before gone (Some held ∷ slots) = before ∷ marks_of (before + 1) gone slots
