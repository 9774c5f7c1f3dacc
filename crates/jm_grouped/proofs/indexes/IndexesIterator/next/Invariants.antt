use Rattle.std.proofs.Common.{◌≡◌, length}
use Rattle.jm_grouped.specs.Order.{indexes_in}
use Rattle.jm_grouped.proofs.indexes.IndexesIterator.next.Given as goal

-- only slots whose items went were passed over
abbrev pub invariant-loop-slot : goal.invariant-loop-slot
invariant-loop-slot l = indexes_in l.self-inside.slots.now.slots l.self-inside.places.now ≡ l.fn.self

abbrev pub decreases-loop-slot : goal.decreases-loop-slot
decreases-loop-slot l = length l.self-inside.places.now
