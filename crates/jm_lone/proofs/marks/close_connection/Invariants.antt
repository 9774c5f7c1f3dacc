use Rattle.std.proofs.Common.{◌≡◌, ◌++◌, drop, map, take}
use Rattle.jm_machine.specs.Life.{closed_if}
use Rattle.jm_lone.proofs.marks.close_connection.Given as goal

abbrev pub invariant-loop-connection : goal.invariant-loop-connection
invariant-loop-connection l = l.connections ≡ map (closed_if l.id) (take l.connection-index l.initial.connections) ++ drop l.connection-index l.initial.connections
