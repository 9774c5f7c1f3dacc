use Rattle.std.proofs.Common.{◌≡◌, ◌++◌, map, ℕ, take}
use Rattle.jm_keep.specs.declared.change.RowChange.TheVariants.{DropDelay}
use Rattle.jm_changes.proofs.lost.push_delays.Given as goal

abbrev pub invariant-loop-place : goal.invariant-loop-place
invariant-loop-place l = l.changes.items ≡ l.initial.changes.items ++ map (λ (p : ℕ). DropDelay p) (take l.place-index l.delays)
