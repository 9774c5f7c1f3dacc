use Rattle.std.proofs.Common.{◌≡◌, ◌≤◌, ◌+◌, length, map, take}
use Rattle.jm_stations.specs.Kept.{without_room}
use Rattle.jm_stations.proofs.copies.copy_lists.Given as goal

abbrev pub invariant-loop-index : goal.invariant-loop-index
invariant-loop-index l = record {
  copies : l.copies.items ≡ map without_room (take l.index l.lists.items);
  room : length l.lists.items ≤ l.copies.spare + l.index;
}
