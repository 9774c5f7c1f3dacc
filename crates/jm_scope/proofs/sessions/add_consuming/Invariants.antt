use Rattle.std.proofs.Common.{◌≡◌, ◌++◌, drop}
use Rattle.jm_machine.specs.Lone.{consuming}
use Rattle.jm_scope.proofs.sessions.add_consuming.Given as goal

abbrev pub invariant-loop-consumer : goal.invariant-loop-consumer
invariant-loop-consumer l = l.sessions.items ++ consuming l.key (drop l.consumer-index l.consumers) ≡ l.fn.sessions.items ++ consuming l.key l.consumers
