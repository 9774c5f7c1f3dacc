use Rattle.jm_listen.specs.Sessions.{ApartBefore}
use Rattle.jm_listen.proofs.jobs.has_same_before.Given as goal

abbrev pub invariant-loop-earlier : goal.invariant-loop-earlier
invariant-loop-earlier g l = ApartBefore l.jobs l.at l.earlier
