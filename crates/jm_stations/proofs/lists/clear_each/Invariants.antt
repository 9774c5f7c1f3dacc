use Rattle.std.proofs.Common.{◌≡◌, length, take}
use Rattle.jm_machine.specs.Attached.{ended}
use Rattle.jm_pending.specs.Counts.{IsCounted}
use Rattle.jm_lane.specs.Holders.{KeepsMessages}
use Rattle.jm_stations.specs.Kept.{all_rows, cleared_under}
use Rattle.jm_stations.proofs.lists.clear_each.Given as goal

abbrev pub invariant-loop-index : goal.invariant-loop-index
invariant-loop-index l = record {
  number : length l.lists.items ≡ length l.initial.lists.items;
  lists : l.lists.items ≡ cleared_under (ended l.which l.attached) (take l.index l.keys.keys) l.initial.lists.items;
  counted : IsCounted l.table (all_rows l.lists.items);
  messages : KeepsMessages l.initial.table l.table;
  spare : l.lists.spare ≡ l.initial.lists.spare;
}
