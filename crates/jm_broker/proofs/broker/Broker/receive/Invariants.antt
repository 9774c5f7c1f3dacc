use Rattle.jm_broker.proofs.Waits.{WaitedFor}
use Rattle.jm_broker.proofs.broker.Broker.receive.Given as goal

abbrev pub invariant-loop-turn : goal.invariant-loop-turn
invariant-loop-turn g l = WaitedFor l.session l.consumer l.initial.pass l.pass l.turn
