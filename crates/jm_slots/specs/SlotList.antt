-- Lists of items in slots, as callers see them.
use Rattle.std.specs.Prelude.{ℕ, List, Option, Some, slice_set}

-- what stands in each slot, for how many more items there is room, and how many may be taken out before the gaps have to be closed
pub record SlotList (A : Type 0) : Type 0 where
  pub slots : List (Option A)
  pub spare : ℕ
  pub leaving : ℕ

-- the list with that item in the slot
abbrev pub with_item : {A : Type 0} → SlotList A → ℕ → A → SlotList A
with_item s slot item = record { slots = slice_set s.slots slot (Some item); spare = s.spare; leaving = s.leaving }
