use Rattle.std.proofs.Common.{◌≡◌, ◌++◌, drop, map, take}
use Rattle.jm_machine.specs.Machine.{listening_if}
use Rattle.jm_lone.proofs.marks.set_listening.Given as goal

abbrev pub invariant-loop-consumer : goal.invariant-loop-consumer
invariant-loop-consumer l = l.consumers ≡ map (listening_if l.session l.id l.on) (take l.consumer-index l.initial.consumers) ++ drop l.consumer-index l.initial.consumers
