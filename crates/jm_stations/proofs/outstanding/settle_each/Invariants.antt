use Rattle.std.proofs.Common.{◌≡◌, length}
use Rattle.std.specs.Vec.{vec_capacity}
use Rattle.jm_machine.specs.Machine.{are_meant}
use Rattle.jm_pending.specs.Counts.{IsCounted}
use Rattle.jm_lane.specs.Holders.{KeepsMessages}
use Rattle.jm_stations.specs.Kept.{all_rows, settled_out}
use Rattle.jm_stations.proofs.Sweeping.{IsSwept}
use Rattle.jm_stations.proofs.outstanding.settle_each.Given as goal

abbrev pub invariant-loop-at : goal.invariant-loop-at
invariant-loop-at l = record {
  number : length l.indexes.items ≡ length l.initial.indexes.items;
  swept : IsSwept (settled_out (are_meant l.which)) l.initial.lists.items l.lists.items l.indexes.items l.at l.stay;
  counted : IsCounted l.table (all_rows l.lists.items);
  messages : KeepsMessages l.initial.table l.table;
  capacity : vec_capacity l.indexes ≡ vec_capacity l.initial.indexes;
}
