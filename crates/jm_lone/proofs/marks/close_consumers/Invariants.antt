use Rattle.std.proofs.Common.{◌≡◌, ◌++◌, drop, map, take}
use Rattle.jm_machine.specs.Machine.{are_meant, closed_consumer}
use Rattle.jm_lone.proofs.marks.close_consumers.Given as goal

abbrev pub invariant-loop-consumer : goal.invariant-loop-consumer
invariant-loop-consumer l = l.consumers ≡ map (closed_consumer (are_meant l.which)) (take l.consumer-index l.initial.consumers) ++ drop l.consumer-index l.initial.consumers
