use Rattle.std.proofs.Common.{take}
use Rattle.std.specs.List.{All}
use Rattle.jm_stations.specs.Kept.{HasMoreRoom}
use Rattle.jm_stations.proofs.Room.{IsRoomAt}
use Rattle.jm_stations.proofs.lists.reserve_each.Given as goal

abbrev pub invariant-loop-index : goal.invariant-loop-index
invariant-loop-index l = record {
  lists : HasMoreRoom l.initial.lists.items l.lists.items;
  room : All (IsRoomAt l.additional l.lists.items) (take l.index-index l.indexes);
}
