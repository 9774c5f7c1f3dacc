use Rattle.std.proofs.Common.{◌≡◌, ◌≤◌, ◌<◌, ℕ, false, get_or}
use Rattle.jm_pending.specs.Rows.{Held}
use Rattle.jm_stations.specs.Standing.{has_row}
use Rattle.jm_stations.proofs.standing.holder_from.Given as goal

abbrev pub invariant-loop-i : goal.invariant-loop-i
invariant-loop-i l = (k : ℕ) (d : Held) → l.index ≤ k → k < l.i → has_row l.place (get_or l.lists.items k d) ≡ false
