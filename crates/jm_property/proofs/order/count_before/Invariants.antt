use Rattle.std.proofs.Common.{◌≡◌, ◌-◌, ℕ, ◌<◌, ◌≤◌, true, false, length, get_or}
use Rattle.jm_property.specs.Order.{is_before, name_at}
use Rattle.jm_property.specs.Same.{names_of}
use Rattle.jm_property.proofs.order.count_before.Given as goal

abbrev pub invariant-loop-low : goal.invariant-loop-low
invariant-loop-low l = record {
  ends : l.low ≤ l.high;
  within : l.high ≤ length l.order;
  before : (k : ℕ) → k < l.low → is_before (name_at (names_of l.entries) (get_or l.order k 0)) l.name ≡ true;
  behind : (k : ℕ) → l.high ≤ k → k < length l.order → is_before (name_at (names_of l.entries) (get_or l.order k 0)) l.name ≡ false;
}

abbrev pub decreases-loop-low : goal.decreases-loop-low
decreases-loop-low l = l.high - l.low
