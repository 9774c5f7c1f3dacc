-- How properties are found by their names: in turn where they are few, else by an order of their places.
use Rattle.std.specs.Prelude.{◌≡◌, ℕ, ◌<◌, Bool, false, List, [], length, slice_index, slice_index_or, IfSome, Option, None}
use Rattle.std.specs.Cmp.Lexicographic.{slice_cmp}
use Rattle.std.specs.Ordering.{is_lt, nat_cmp}
use Rattle.jm_property.specs.Properties.{Table, value_of}
use Rattle.jm_property.specs.Same.{names_of}

-- the first text comes before the second, by their bytes
abbrev pub is_before : List ℕ → List ℕ → Bool
is_before a b = is_lt (slice_cmp nat_cmp a b)

-- the name at that place
abbrev pub name_at : List (List ℕ) → ℕ → List ℕ
name_at names place = slice_index_or names place []

-- the places of some names in the order of the names: each is a place of a name, none comes before an earlier one, and each
-- name's place is there
pub record IsOrder (names : List (List ℕ)) (order : List ℕ) : Type 0 where
  pub within : (k : ℕ) → k < length order → slice_index order k < length names
  pub rising : (j k : ℕ) → j < k → k < length order → is_before (name_at names (slice_index order k)) (name_at names (slice_index order j)) ≡ false
  pub whole : (place : ℕ) → place < length names → (k : ℕ) × (k < length order) × (slice_index order k ≡ place)

-- the order of more than sixteen names; of fewer nothing is asked
abbrev pub IsIndex : Table → List ℕ → Type 0
IsIndex table order = 16 < length table → IsOrder (names_of table) order

-- what a search for the name answers: a place where it stands, or none, and then it has no value
abbrev pub IsPlaceOf : Table → List ℕ → Option ℕ → Type 0
IsPlaceOf table name answer =
    IfSome answer (λ place. (place < length table) × (name_at (names_of table) place ≡ name)) × (answer ≡ None → value_of table name ≡ None)
