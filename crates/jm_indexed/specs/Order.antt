-- Where keys stand, and the order of their slots.
use Rattle.std.specs.Prelude.{◌≡◌, ℕ, ◌<◌, ◌≤◌, ◌+◌, Bool, true, false, List, [], ◌∷◌, length, position, slice_index, slice_index_or, is_some, Option, if◌then◌else◌}
use Rattle.std.specs.List.{All, AllPairs, Contains}
use Rattle.std.specs.Ordering.{is_lt}
use Rattle.std.specs.declared.cmp.Ordering.{Ordering}
use Rattle.std.specs.declared.cmp.Ordering.TheVariants.{Equal}
use Rattle.jm_slots.specs.Items.{item_in}

-- where the key stands among those: the first that is equal to it
abbrev pub index_in : {K : Type 0} → (K → K → Bool) → List K → K → Option ℕ
index_in eq keys key = position (λ k. eq k key) keys

-- the key of the slot comes before that one
abbrev pub is_below : {K : Type 0} → (K → K → Ordering) → List K → ℕ → K → Bool
is_below cmp keys slot key = is_lt (cmp (slice_index_or keys slot key) key)

-- the key of the first slot comes before the key of the second
abbrev pub IsBefore : {K : Type 0} → (K → K → Ordering) → List K → ℕ → ℕ → Type 0
IsBefore {K} cmp keys i j = (d : K) → is_lt (cmp (slice_index_or keys i d) (slice_index_or keys j d)) ≡ true

-- slots in the order of their keys: each comes before all later ones
pub record IsRising {K : Type 0} (cmp : K → K → Ordering) (keys : List K) (order : List ℕ) : Type 0 where
  pub within : All (λ i. i < length keys) order
  pub rising : AllPairs (IsBefore cmp keys) order

-- whether the slot has a value
abbrev pub has_value : {V : Type 0} → List (Option V) → ℕ → Bool
has_value slots slot = is_some (item_in slots slot)

-- slots in the order of their keys, and each that has a value is there
pub record IsOrder {K V : Type 0} (cmp : K → K → Ordering) (keys : List K) (slots : List (Option V)) (order : List ℕ) : Type 0 where
  pub rises : IsRising cmp keys order
  pub whole : (i : ℕ) → has_value slots i ≡ true → Contains order i

-- a slot of each key, found by their order, and room for a mark of each
pub record IsIndexed {K V : Type 0} (cmp : K → K → Ordering) (keys : List K) (slots : List (Option V)) (order marks : List ℕ) (room : ℕ) : Type 0 where
  pub ordered : IsOrder cmp keys slots order
  pub even : length slots ≡ length keys
  pub unmarked : marks ≡ []
  pub fits : length keys ≤ room

-- the slot has a value, and its key is equal to that one
pub record IsSlotOf {K V : Type 0} (eq : K → K → Bool) (keys : List K) (slots : List (Option V)) (key : K) (slot : ℕ) : Type 0 where
  pub within : slot < length keys
  pub value : has_value slots slot ≡ true
  pub equal : eq (slice_index_or keys slot key) key ≡ true

-- no slot that has a value has a key that is equal to that one
abbrev pub IsNowhere : {K V : Type 0} → (K → K → Bool) → List K → List (Option V) → K → Type 0
IsNowhere eq keys slots key = (slot : ℕ) → IsSlotOf eq keys slots key slot → ⊥

-- at that place of the order stands a slot that has a value, and its key is in the section
pub record IsInsideAt {K V : Type 0} (place : K → Ordering) (keys : List K) (slots : List (Option V)) (order : List ℕ) (at : ℕ) : Type 0 where
  pub within : at < length order
  pub value : has_value slots (slice_index order at) ≡ true
  pub inside : (d : K) → place (slice_index_or keys (slice_index order at) d) ≡ Equal

-- from that place on there is none
abbrev pub IsOutsideFrom : {K V : Type 0} → (K → Ordering) → List K → List (Option V) → List ℕ → ℕ → Type 0
IsOutsideFrom place keys slots order first = (at : ℕ) → first ≤ at → IsInsideAt place keys slots order at → ⊥

-- from that place on no key comes before the section
abbrev pub IsBegun : {K : Type 0} → (K → Ordering) → List K → List ℕ → ℕ → Type 0
IsBegun {K} place keys order first = (at : ℕ) (d : K) → first ≤ at → at < length order → is_lt (place (slice_index_or keys (slice_index order at) d)) ≡ false

-- for each how many of those that stay stand before it, where so many stand before them all; or the mark of one that goes
abbrev pub marks_of : {K : Type 0} → (K → Bool) → ℕ → ℕ → List K → List ℕ
marks_of stays before gone [] = []
marks_of stays before gone (key ∷ keys) = if stays key then before ∷ marks_of stays (before + 1) gone keys else gone ∷ marks_of stays before gone keys
