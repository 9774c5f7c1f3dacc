-- Keys by their indexes.
use Rattle.std.specs.Prelude.{◌≡◌, ◌<◌, ℕ, List, [], length, slice_index_or}
use Rattle.jm_dest.specs.declared.key.Key.{Key}

-- the key stands there among those
abbrev pub IsAt : List Key → Key → ℕ → Type 0
IsAt keys key i = (i < length keys) × ((d : Key) → slice_index_or keys i d ≡ key)
