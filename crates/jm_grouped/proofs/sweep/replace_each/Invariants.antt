use Rattle.std.proofs.Common.{◌≡◌, ◌++◌, map, take, drop}
use Rattle.std.specs.Prelude.{slice_index}
use Rattle.jm_grouped.proofs.sweep.replace_each.Given as goal

abbrev pub invariant-loop-slot : goal.invariant-loop-slot
invariant-loop-slot l = l.order ≡ map (slice_index l.marks) (take l.slot-index l.initial.order) ++ drop l.slot-index l.initial.order
