use Rattle.std.proofs.Common.{◌≡◌, ◌++◌, map, ℕ}
use Rattle.jm_dest.specs.declared.key.Key.{Key}
use Rattle.jm_keep.specs.declared.change.RowChange.TheVariants.{DropHeld}
use Rattle.jm_changes.proofs.lost.push_rows.Given as goal

abbrev pub invariant-loop-key : goal.invariant-loop-key
invariant-loop-key l = l.changes.items ≡ l.initial.changes.items ++ map (λ (x : Key × ℕ). DropHeld x.0 x.1) l.yielded
