-- The first row of a table that does not fit.
use Rattle.std.specs.Prelude.{◌≡◌, ◌<◌, ◌+◌, ℕ, List, length, slice_index_or}
use Rattle.std.specs.declared.cmp.Ordering.{Ordering}
use Rattle.std.specs.declared.cmp.Ordering.TheVariants.{Less}

-- the row with that index stands behind the one before, where there is one
abbrev pub IsBehind : {X : Type 0} → (X → X → Ordering) → List X → ℕ → Type 0
IsBehind {X} cmp rows at = (k : ℕ) (d : X) → k + 1 ≡ at → cmp (slice_index_or rows k d) (slice_index_or rows at d) ≡ Less

-- it does, and may stand
abbrev pub IsNext : {X : Type 0} → (X → X → Ordering) → (X → Type 0) → List X → ℕ → Type 0
IsNext {X} cmp MayStand rows at = IsBehind cmp rows at × ((d : X) → MayStand (slice_index_or rows at d))

-- the first rows, so many, fit: each stands behind the one before, and may stand
pub record AreFit {X : Type 0} (cmp : X → X → Ordering) (MayStand : X → Type 0) (rows : List X) (n : ℕ) : Type 0 where
  pub rise : (k : ℕ) (d : X) → k + 1 < n → cmp (slice_index_or rows k d) (slice_index_or rows (k + 1) d) ≡ Less
  pub may : (k : ℕ) (d : X) → k < n → MayStand (slice_index_or rows k d)

-- those before the row with that index fit, and with it they do not
pub record IsFirstUnfit {X : Type 0} (cmp : X → X → Ordering) (MayStand : X → Type 0) (rows : List X) (at : ℕ) : Type 0 where
  pub within : at < length rows
  pub before : AreFit cmp MayStand rows at
  pub unfit : ¬ AreFit cmp MayStand rows (at + 1)

-- of those before the row with that index it is so, and of this one it is not
pub record IsFirstWithout {X : Type 0} (Has : X → Type 0) (rows : List X) (at : ℕ) : Type 0 where
  pub within : at < length rows
  pub before : (k : ℕ) (d : X) → k < at → Has (slice_index_or rows k d)
  pub without : (d : X) → ¬ Has (slice_index_or rows at d)
