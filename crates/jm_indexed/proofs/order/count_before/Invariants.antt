use Rattle.std.proofs.Common.{◌≡◌, ◌-◌, ℕ, ◌<◌, ◌≤◌, true, false, length, get_or}
use Rattle.jm_indexed.specs.Order.{is_below}
use Rattle.jm_indexed.proofs.order.count_before.Given as goal

abbrev pub invariant-loop-low : goal.invariant-loop-low
invariant-loop-low g l = record {
  ends : l.low ≤ l.high;
  within : l.high ≤ length l.order;
  before : (k : ℕ) → k < l.low → is_below g.K.Ord.cmp l.keys (get_or l.order k 0) l.key ≡ true;
  behind : (k : ℕ) → l.high ≤ k → k < length l.order → is_below g.K.Ord.cmp l.keys (get_or l.order k 0) l.key ≡ false;
}

abbrev pub decreases-loop-low : goal.decreases-loop-low
decreases-loop-low g l = l.high - l.low
