-- Maps of keys, as callers see them.
use Rattle.std.specs.Prelude.{◌≡◌, ℕ, zero, suc, Bool, false, List, [], ◌∷◌, Option, Some, None, IsSome, if◌then◌else◌}
use Rattle.std.specs.Map.{lookup, set_value}

-- the keys with their values, in order of coming, and for how many more there is room
pub record Entries (K V : Type 0) : Type 0 where
  pub entries : List (K × V)
  pub spare : ℕ

-- the keys of the slots that have a value, with those values, in order of coming
abbrev pub entries_of : {K V : Type 0} → List K → List (Option V) → List (K × V)
entries_of [] slots = []
entries_of (key ∷ keys) [] = []
entries_of (key ∷ keys) (None ∷ slots) = entries_of keys slots
entries_of (key ∷ keys) (Some value ∷ slots) = (key, value) ∷ entries_of keys slots

-- whether the slot has a value that stays with its key
abbrev pub stays_in : {K V : Type 0} → (K → V → Bool) → K × Option V → Bool
stays_in kept (key, None) = false
stays_in kept (key, Some value) = kept key value

-- at the key stands that value now, or none, and at each other what stood there
abbrev pub Updates : {K V : Type 0} → (K → K → Bool) → List (K × V) → List (K × V) → K → Option V → Type 0
Updates {K} eq old new key value = (q : K) → lookup (eq q) new ≡ (if eq key q then value else lookup (eq q) old)

-- the entries with that value at the index
abbrev pub set_value_at : {K V : Type 0} → List (K × V) → ℕ → V → List (K × V)
set_value_at [] index value = []
set_value_at (e ∷ es) zero value = (e.0, value) ∷ es
set_value_at (e ∷ es) (suc index) value = e ∷ set_value_at es index value

-- the map with that value at the index
abbrev pub with_value_at : {K V : Type 0} → Entries K V → ℕ → V → Entries K V
with_value_at m index value = record { entries = set_value_at m.entries index value; spare = m.spare }

-- the value was written at the key, where it is there
pub record WritesThrough {K V : Type 0} (eq : K → K → Bool) (key : K) (old : Entries K V) (value : V) (new : Entries K V) : Type 0 where
  pub entries : new.entries ≡ set_value (eq key) old.entries value
  pub spare : new.spare ≡ old.spare
  pub updates : IsSome (lookup (eq key) old.entries) → Updates eq old.entries new.entries key (Some value)
