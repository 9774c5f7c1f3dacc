use Rattle.std.proofs.Common.{take}
use Rattle.jm_machine.specs.Attached.{AreCounted}
use Rattle.jm_machine.proofs.attached.Attached.of.Given as goal

abbrev pub invariant-loop-consumer : goal.invariant-loop-consumer
invariant-loop-consumer l = AreCounted (take l.consumer-index l.consumers) l.attached
