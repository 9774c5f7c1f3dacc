use Rattle.std.proofs.Common.{◌≡◌, ◌-◌, ℕ, ◌<◌, ◌≤◌, true, false, length, get_or}
use Rattle.jm_grouped.specs.Order.{is_counted}
use Rattle.jm_grouped.proofs.order.count_before.Given as goal

abbrev pub invariant-loop-low : goal.invariant-loop-low
invariant-loop-low g l = record {
  ends : l.low ≤ l.high;
  within : l.high ≤ length l.order;
  before : (k : ℕ) → k < l.low → is_counted g.T.Ord.cmp l.items l.value l.and_equal (get_or l.order k 0) ≡ true;
  behind : (k : ℕ) → l.high ≤ k → k < length l.order → is_counted g.T.Ord.cmp l.items l.value l.and_equal (get_or l.order k 0) ≡ false;
}

abbrev pub decreases-loop-low : goal.decreases-loop-low
decreases-loop-low g l = l.high - l.low
