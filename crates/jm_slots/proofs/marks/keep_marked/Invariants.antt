use Rattle.std.proofs.Common.{◌≡◌, ◌≤◌, ◌++◌, drop, take, vec_len}
use Rattle.std.specs.Vec.{vec_capacity}
use Rattle.jm_slots.specs.Marks.{marked_below}
use Rattle.jm_slots.proofs.marks.keep_marked.Given as goal

abbrev pub invariant-loop-at : goal.invariant-loop-at
invariant-loop-at g l = record {
  items : take l.kept l.items.items ++ marked_below l.gone (drop l.at l.marks) (drop l.at l.items.items) ≡ marked_below l.gone l.marks l.initial.items.items;
  number : vec_len l.items ≡ vec_len l.initial.items;
  capacity : vec_capacity l.items ≡ vec_capacity l.initial.items;
  kept : l.kept ≤ l.at;
}
