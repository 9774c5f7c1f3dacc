use Rattle.std.proofs.Common.{◌≡◌, ◌≤◌, ◌++◌, drop, length, vec_len}
use Rattle.std.specs.Vec.{vec_capacity}
use Rattle.jm_grouped.specs.Order.{marks_of}
use Rattle.jm_grouped.proofs.sweep.mark_slots.Given as goal

abbrev pub invariant-loop-slot : goal.invariant-loop-slot
invariant-loop-slot l = record {
  marks : l.marks.items ++ marks_of l.taken (length l.slots.slots) (drop l.slot l.slots.slots) ≡ marks_of 0 (length l.slots.slots) l.slots.slots;
  number : vec_len l.marks ≡ l.slot;
  capacity : vec_capacity l.marks ≡ vec_capacity l.initial.marks;
  taken : l.taken ≤ l.slot;
}
