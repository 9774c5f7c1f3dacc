use Rattle.std.proofs.Common.{take}
use Rattle.jm_stations.specs.Kept.{all_rows}
use Rattle.jm_stations.specs.Loading.{AreOffered}
use Rattle.jm_stations.proofs.Holders.{IsFollowed}
use Rattle.jm_stations.proofs.loading.offer_stored.Given as goal

abbrev pub invariant-loop-stored : goal.invariant-loop-stored
invariant-loop-stored l = record {
  offered : AreOffered (take l.stored-index l.rows) l.row l.initial.lists.items l.lists.items;
  followed : IsFollowed l.initial.table l.table l.row.place l.stored-index (all_rows l.initial.lists.items) (all_rows l.lists.items);
}
