use Rattle.std.proofs.Common.{take}
use Rattle.jm_stations.specs.Kept.{all_rows, IsOffered}
use Rattle.jm_stations.proofs.Holders.{IsFollowed}
use Rattle.jm_stations.proofs.lists.offer_each.Given as goal

abbrev pub invariant-loop-index : goal.invariant-loop-index
invariant-loop-index l = record {
  offered : IsOffered (take l.index-index l.indexes) l.row l.initial.lists.items l.lists.items;
  followed : IsFollowed l.initial.table l.table l.row.place l.index-index (all_rows l.initial.lists.items) (all_rows l.lists.items);
}
