use Rattle.std.proofs.Common.{◌≡◌, ◌++◌, map}
use Rattle.jm_dest.specs.declared.key.Key.{Key}
use Rattle.jm_keep.specs.declared.change.RowChange.TheVariants.{PutHeld}
use Rattle.jm_changes.proofs.sending.push_held.Given as goal

abbrev pub invariant-loop-key : goal.invariant-loop-key
invariant-loop-key l = l.changes.items ≡ l.initial.changes.items ++ map (λ (k : Key). PutHeld k l.place) l.yielded
