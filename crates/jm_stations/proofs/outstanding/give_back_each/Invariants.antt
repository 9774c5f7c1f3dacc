use Rattle.std.proofs.Common.{◌≡◌, length}
use Rattle.std.specs.Vec.{vec_capacity}
use Rattle.jm_machine.specs.Machine.{are_meant}
use Rattle.jm_stations.specs.Kept.{given_back}
use Rattle.jm_stations.proofs.Sweeping.{IsSwept}
use Rattle.jm_stations.proofs.outstanding.give_back_each.Given as goal

abbrev pub invariant-loop-at : goal.invariant-loop-at
invariant-loop-at l = record {
  number : length l.indexes.items ≡ length l.initial.indexes.items;
  swept : IsSwept (given_back (are_meant l.which)) l.initial.lists.items l.lists.items l.indexes.items l.at l.stay;
  capacity : vec_capacity l.indexes ≡ vec_capacity l.initial.indexes;
}
