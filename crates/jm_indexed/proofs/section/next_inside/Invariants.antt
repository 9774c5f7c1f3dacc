use Rattle.std.proofs.Common.{◌≡◌, ℕ, ◌<◌, ◌≤◌, false, get_or}
use Rattle.jm_indexed.specs.Order.{has_value}
use Rattle.jm_indexed.proofs.section.next_inside.Given as goal

abbrev pub invariant-loop-at : goal.invariant-loop-at
invariant-loop-at g l = (k : ℕ) → l.first ≤ k → k < l.at → has_value l.values.slots (get_or l.order k 0) ≡ false
