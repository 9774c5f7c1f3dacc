use Rattle.std.proofs.Common.{◌≡◌, ◌++◌, drop, map, take}
use Rattle.jm_machine.specs.Life.{started_if}
use Rattle.jm_lone.proofs.marks.set_started.Given as goal

abbrev pub invariant-loop-connection : goal.invariant-loop-connection
invariant-loop-connection l = l.connections ≡ map (started_if l.id l.is_started) (take l.connection-index l.initial.connections) ++ drop l.connection-index l.initial.connections
