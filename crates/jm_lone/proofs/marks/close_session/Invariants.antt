use Rattle.std.proofs.Common.{◌≡◌, ◌++◌, drop, map, take}
use Rattle.jm_machine.specs.Life.{closed_where}
use Rattle.jm_lone.specs.Sessions.{is_session}
use Rattle.jm_lone.proofs.marks.close_session.Given as goal

abbrev pub invariant-loop-session : goal.invariant-loop-session
invariant-loop-session l = l.sessions ≡ map (closed_where (is_session l.id)) (take l.session-index l.initial.sessions) ++ drop l.session-index l.initial.sessions
