use Rattle.std.proofs.Common.{◌-◌, ◌<◌, ◌≤◌, ℕ, length, get_or}
use Rattle.jm_stations.proofs.outstanding.Outstanding.count_before.Given as goal

abbrev pub invariant-loop-low : goal.invariant-loop-low
invariant-loop-low l = record {
  ends : l.low ≤ l.high;
  within : l.high ≤ length l.self.indexes;
  before : (k : ℕ) → k < l.low → get_or l.self.indexes k 0 < l.index;
  behind : (k : ℕ) → l.high ≤ k → k < length l.self.indexes → l.index ≤ get_or l.self.indexes k 0;
}

abbrev pub decreases-loop-low : goal.decreases-loop-low
decreases-loop-low l = l.high - l.low
