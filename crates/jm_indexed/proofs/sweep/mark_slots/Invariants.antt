use Rattle.std.proofs.Common.{◌≡◌, ◌≤◌, ◌++◌, drop, length, vec_len}
use Rattle.std.specs.List.{zip}
use Rattle.std.specs.Vec.{vec_capacity}
use Rattle.jm_indexed.specs.Entries.{stays_in}
use Rattle.jm_indexed.specs.Order.{marks_of}
use Rattle.jm_indexed.proofs.sweep.mark_slots.Given as goal

abbrev pub invariant-loop-slot : goal.invariant-loop-slot
invariant-loop-slot g l = record {
  marks : l.marks.items ++ marks_of (stays_in (g.C.EntryChoice.kept l.choice)) l.stay (length l.keys) (drop l.slot (zip l.keys l.values.slots)) ≡ marks_of (stays_in (g.C.EntryChoice.kept l.choice)) 0 (length l.keys) (zip l.keys l.values.slots);
  number : vec_len l.marks ≡ l.slot;
  capacity : vec_capacity l.marks ≡ vec_capacity l.initial.marks;
  stay : l.stay ≤ l.slot;
}
