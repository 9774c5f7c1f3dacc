-- Lists by index, as callers see them.
use Rattle.std.specs.Prelude.{ℕ, List, slice_set}

-- the items in order of coming, and for how many more there is room
pub record Listed (A : Type 0) : Type 0 where
  pub items : List A
  pub spare : ℕ

-- the list with that item at the index
abbrev pub with_item_at : {A : Type 0} → Listed A → ℕ → A → Listed A
with_item_at l index item = record { items = slice_set l.items index item; spare = l.spare }
