use Rattle.jm_client.specs.Listening.{Turns}
use Rattle.jm_client.proofs.session.Session.handle_all.Given as goal

abbrev pub invariant-loop-handled : goal.invariant-loop-handled
invariant-loop-handled g l = Turns g.N.SessionListener.handles_in l.consumer l.initial.listener l.initial.self l.handled l.listener l.self
