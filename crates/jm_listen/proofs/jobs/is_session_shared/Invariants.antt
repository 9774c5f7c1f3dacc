use Rattle.jm_listen.specs.Sessions.{Apart}
use Rattle.jm_listen.proofs.jobs.is_session_shared.Given as goal

abbrev pub invariant-loop-at : goal.invariant-loop-at
invariant-loop-at g l = Apart l.jobs l.at
