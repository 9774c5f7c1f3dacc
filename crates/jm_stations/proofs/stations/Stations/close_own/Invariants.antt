use Rattle.std.proofs.Common.{◌≡◌, ◌≤◌, length, not}
use Rattle.std.specs.List.{filter}
use Rattle.jm_machine.specs.Sections.{is_own_of}
use Rattle.jm_stations.specs.Backlogs.{kept_under}
use Rattle.jm_stations.proofs.stations.Stations.close_own.Given as goal

abbrev pub invariant-loop-index : goal.invariant-loop-index
invariant-loop-index l = record {
  keys : filter (λ k. not (is_own_of l.which k)) l.self.keys ≡ filter (λ k. not (is_own_of l.which k)) l.initial.self.keys;
  list : kept_under (λ k. not (is_own_of l.which k)) l.self.keys l.self.list ≡ kept_under (λ k. not (is_own_of l.which k)) l.initial.self.keys l.initial.self.list;
  next_place : l.self.next_place ≡ l.initial.self.next_place;
  message_room : l.initial.self.message_room ≤ l.self.message_room;
  key_room : l.initial.self.key_room ≤ l.self.key_room;
}

abbrev pub decreases-loop-index : goal.decreases-loop-index
decreases-loop-index l = length l.self.keys
