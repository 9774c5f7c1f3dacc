use Rattle.std.proofs.Common.{◌≡◌, ◌≤◌, ◌+◌, ◌++◌, length, take, drop, not}
use Rattle.jm_machine.specs.Attached.{ended}
use Rattle.jm_stations.specs.Kept.{lists_under}
use Rattle.jm_stations.proofs.lists.keep_each.Given as goal

abbrev pub invariant-loop-index : goal.invariant-loop-index
invariant-loop-index l = record {
  number : length l.lists.items + l.index ≡ length l.keys.keys + l.at;
  behind : l.at ≤ l.index;
  lists : take l.at l.lists.items ++ lists_under (λ k. not (ended l.which l.attached k)) (drop l.index l.keys.keys) (drop l.at l.lists.items) ≡ lists_under (λ k. not (ended l.which l.attached k)) l.keys.keys l.initial.lists.items;
  spare : l.initial.lists.spare ≤ l.lists.spare;
}
