use Rattle.std.proofs.Common.{◌≡◌, ◌-◌, ℕ, ◌<◌, ◌≤◌, true, length, get_or}
use Rattle.std.specs.Ordering.{is_lt}
use Rattle.jm_indexed.specs.Order.{IsBegun}
use Rattle.jm_indexed.proofs.section.count_ahead.Given as goal

abbrev pub invariant-loop-low : goal.invariant-loop-low
invariant-loop-low g l = record {
  ends : l.low ≤ l.high;
  within : l.high ≤ length l.order;
  ahead : (k : ℕ) (d : g.row.K.Denot) → k < l.low → is_lt (g.S.Section.place l.section (get_or l.keys (get_or l.order k 0) d)) ≡ true;
  begun : IsBegun (g.S.Section.place l.section) l.keys l.order l.high;
}

abbrev pub decreases-loop-low : goal.decreases-loop-low
decreases-loop-low g l = l.high - l.low
