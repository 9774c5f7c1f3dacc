use Rattle.std.proofs.Common.{◌≡◌, ◌++◌, length}
use Rattle.std.specs.Vec.Iter.{into_iter_items}
use Rattle.jm_machine.specs.Rows.{bare}
use Rattle.jm_rows.specs.Rows.{HasRoom, IsOneAtMost, rows_in}
use Rattle.jm_rows.proofs.rows.Rows.of.Given as goal

abbrev pub invariant-loop-placed : goal.invariant-loop-placed
invariant-loop-placed l = record {
  all : l.fn.rows.items ≡ l.yielded ++ into_iter_items l.placed-iterator;
  one : IsOneAtMost l.stations.next_place l.stations.list;
  room : HasRoom (length (into_iter_items l.placed-iterator)) l.stations;
  rows : rows_in l.stations.list ≡ bare l.yielded;
}
