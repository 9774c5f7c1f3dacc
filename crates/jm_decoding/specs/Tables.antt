-- What the rows of a table stand for, in their order.
use Rattle.std.specs.Prelude.{◌≡◌, ℕ, List, [], ◌∷◌, take, slice_get, Some, ⊤}
use Rattle.std.specs.List.{AllByRecursion}
use Rattle.sqlite_value.specs.Order.{Row}
use Rattle.jm_decoding.specs.declared.fault.TableFault.{TableFault}
use Rattle.jm_decoding.specs.declared.fault.TableFault.TheVariants.{Damaged, Memory}

-- each row stands for the value with its index, and there are no more of either
abbrev pub StandFor : {X : Type 0} → (Row → X → Type 0) → List Row → List X → Type 0
StandFor StandsFor [] [] = ⊤
StandFor StandsFor (r ∷ rows) (x ∷ xs) = StandsFor r x × StandFor StandsFor rows xs
StandFor StandsFor _ _ = ⊥

-- the row with that index is the first that may not be read
pub record IsFirstDamaged (IsReadable : Row → Type 0) (rows : List Row) (at : ℕ) : Type 0 where
  pub row : Row
  pub row_is : slice_get rows at ≡ Some row
  pub damaged : ¬ IsReadable row
  pub before : AllByRecursion IsReadable (take at rows)

-- why the rows are refused: the first that may not be read is damaged, or memory is wanted
abbrev pub IsFaultOfTable : (Row → Type 0) → List Row → TableFault → Type 0
IsFaultOfTable IsReadable rows (Damaged at) = IsFirstDamaged IsReadable rows at
IsFaultOfTable IsReadable rows Memory = ⊤
