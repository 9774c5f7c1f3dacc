use Rattle.std.proofs.Common.{◌≡◌, ◌+◌, ◌≤◌, replicate, Some}
use Rattle.jm_grouped.proofs.copy.taken_slots.Given as goal

abbrev pub invariant-loop-made : goal.invariant-loop-made
invariant-loop-made l = record {
  slots : l.taken.slots ≡ replicate l._made (Some tt);
  room : l.n ≤ l.taken.spare + l._made;
}
