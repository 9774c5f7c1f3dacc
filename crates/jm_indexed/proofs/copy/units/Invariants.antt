use Rattle.std.proofs.Common.{◌≡◌, ◌+◌, ◌≤◌}
use Rattle.jm_indexed.proofs.Copied.{all_held}
use Rattle.jm_indexed.proofs.copy.units.Given as goal

abbrev pub invariant-loop-made : goal.invariant-loop-made
invariant-loop-made l = record {
  slots : l.units.slots ≡ all_held l._made;
  room : l.n ≤ l.units.spare + l._made;
}
