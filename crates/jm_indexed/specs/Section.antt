-- Stretches of keys in their order.
use Rattle.std.specs.Prelude.{◌≡◌, ◌≤◌}
use Rattle.std.specs.Ordering.{ordering_index}
use Rattle.std.specs.declared.cmp.Ordering.{Ordering}
use Rattle.std.specs.declared.cmp.Ordering.TheVariants.{Less}

-- of two keys the one that comes later never stands earlier: first those before the section, then those in it, then those behind
abbrev pub IsMonotone : {K : Type 0} → (K → K → Ordering) → (K → Ordering) → Type 0
IsMonotone {K} cmp place = (a b : K) → cmp a b ≡ Less → ordering_index (place a) ≤ ordering_index (place b)
