-- Sets of keys, as callers see them.
use Rattle.std.specs.Prelude.{ℕ, List}

-- the keys in order of coming, and for how many more there is room
pub record Keys (K : Type 0) : Type 0 where
  pub keys : List K
  pub spare : ℕ
