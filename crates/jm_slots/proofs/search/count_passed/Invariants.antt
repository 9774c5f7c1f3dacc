use Rattle.std.proofs.Common.{◌-◌, ◌+◌, ℕ, ◌<◌, ◌≤◌, length, get_or}
use Rattle.jm_slots.proofs.search.count_passed.Given as goal

abbrev pub invariant-loop-low : goal.invariant-loop-low
invariant-loop-low l = record {
  ends : l.low ≤ l.high;
  within : l.high ≤ length l.gaps;
  passed : (k : ℕ) → k < l.low → get_or l.gaps k 0 ≤ l.index + k;
  ahead : (k : ℕ) → l.high ≤ k → k < length l.gaps → l.index + k < get_or l.gaps k 0;
}

abbrev pub decreases-loop-low : goal.decreases-loop-low
decreases-loop-low l = l.high - l.low
