-- What the rows of meta say.
use Rattle.std.specs.Prelude.{◌≡◌, ◌≢◌, ◌⊎◌, ◌≤◌, ◌<◌, ℕ, ℤ, pos, Bool, List, [], ◌∷◌, length, ⊤, if◌then◌else◌}
use Rattle.jm_tables.specs.Valid.{greatest_opening}
use Rattle.sqlite_value.specs.declared.value.Value.TheVariants.{Int}
use Rattle.sqlite_value.specs.Order.{Row, column}
use Rattle.jm_opening.specs.declared.judged.LastOpening.{LastOpening}
use Rattle.jm_opening.specs.declared.judged.OpenFault.{OpenFault}
use Rattle.jm_opening.specs.declared.judged.OpenFault.TheVariants.{Damaged, WrongVersion, Exhausted, Memory, Store}
use Rattle.jm_opening.specs.declared.judged.TableName.TheVariants.{Meta}

-- the column is a whole number
abbrev pub IsNumberAt : Row → ℕ → ℤ → Type 0
IsNumberAt row at n = column row at ≡ Int n

-- it is none, or memory was refused
abbrev pub IsNoNumberAt : Row → ℕ → OpenFault → Type 0
IsNoNumberAt row at fault = (fault ≡ Memory) ⊎ ((fault ≡ Damaged Meta 0) × (at < length row → (n : ℤ) → column row at ≢ Int n))

-- the version that a mark means
abbrev pub version_number : Bool → ℕ
version_number is_current = if is_current then 2 else 1

abbrev pub version_of_mark : Bool → ℤ
version_of_mark is_current = pos (version_number is_current)

-- the row is that of the opening before
pub record IsLast (row : Row) (last : LastOpening) : Type 0 where
  pub version_is : column row 1 ≡ Int (version_of_mark last.is_current)
  pub opening_is : column row 2 ≡ Int (pos last.opening)
  pub positive : 1 ≤ last.opening
  pub within : last.opening < greatest_opening

-- the version is one that there is
abbrev pub IsKnown : Row → Type 0
IsKnown row = (column row 1 ≡ Int (pos 1)) ⊎ (column row 1 ≡ Int (pos 2))

-- the number is that of an opening
abbrev pub IsInRange : ℤ → Type 0
IsInRange n = (m : ℕ) × (n ≡ pos m) × (1 ≤ m) × (m ≤ greatest_opening)

-- the row is damaged: its version or its opening is no number, or the opening is none that there is
abbrev pub IsDamaged : Row → Type 0
IsDamaged row =
    (1 < length row → (n : ℤ) → column row 1 ≢ Int n)
    ⊎ (IsKnown row × ((2 < length row → (n : ℤ) → column row 2 ≢ Int n) ⊎ ((n : ℤ) × (column row 2 ≡ Int n) × ¬ IsInRange n)))

-- why the row is refused
abbrev pub IsFaultOfRow : Row → OpenFault → Type 0
IsFaultOfRow row (Damaged table at) = (table ≡ Meta) × (at ≡ 0) × IsDamaged row
IsFaultOfRow row (WrongVersion n) = (column row 1 ≡ Int n) × (n ≢ pos 1) × (n ≢ pos 2)
IsFaultOfRow row Exhausted = IsKnown row × (column row 2 ≡ Int (pos greatest_opening))
IsFaultOfRow row Memory = ⊤
IsFaultOfRow row Store = ⊥

-- the key is that of the only row
abbrev pub HasKey : Row → Type 0
HasKey row = column row 0 ≡ Int (pos 1)

-- it is none
abbrev pub HasNoKey : Row → Type 0
HasNoKey row = (0 < length row → (n : ℤ) → column row 0 ≢ Int n) ⊎ ((n : ℤ) × (column row 0 ≡ Int n) × (n ≢ pos 1))

-- why the only row is refused
abbrev pub IsFaultOfOnly : Row → OpenFault → Type 0
IsFaultOfOnly row fault = IsFaultOfRow row fault ⊎ ((fault ≡ Damaged Meta 0) × HasNoKey row)

-- why the rows are refused: there is none, the one row is refused, or there are more
abbrev pub IsFault : List Row → OpenFault → Type 0
IsFault rows fault =
    ((rows ≡ []) × (fault ≡ Damaged Meta 0)) ⊎ (((row : Row) × (rows ≡ row ∷ []) × IsFaultOfOnly row fault) ⊎ ((2 ≤ length rows) × (fault ≡ Damaged Meta 1)))
