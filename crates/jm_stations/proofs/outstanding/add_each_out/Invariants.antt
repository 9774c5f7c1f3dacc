use Rattle.std.proofs.Common.{◌≡◌, ◌<◌, ℕ, true, false, get_or}
use Rattle.std.specs.Vec.{vec_capacity}
use Rattle.jm_lane.specs.Rows.{are_home}
use Rattle.jm_pending.specs.Rows.{Held}
use Rattle.jm_stations.specs.Backlogs.{is_named}
use Rattle.jm_stations.specs.Outstanding.{AreRising}
use Rattle.jm_stations.proofs.outstanding.add_each_out.Given as goal

abbrev pub invariant-loop-index : goal.invariant-loop-index
invariant-loop-index l = record {
  rising : AreRising 0 l.index l.indexes.items;
  others : (k : ℕ) (d : Held) → k < l.index → is_named l.indexes.items k ≡ false → are_home (get_or l.lists.items k d).rows ≡ true;
  capacity : vec_capacity l.indexes ≡ vec_capacity l.initial.indexes;
}
