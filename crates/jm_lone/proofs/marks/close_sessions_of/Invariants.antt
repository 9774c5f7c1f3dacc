use Rattle.std.proofs.Common.{◌≡◌, ◌++◌, drop, map, take}
use Rattle.jm_machine.specs.Life.{closed_where}
use Rattle.jm_lone.specs.Sessions.{is_on}
use Rattle.jm_lone.proofs.marks.close_sessions_of.Given as goal

abbrev pub invariant-loop-session : goal.invariant-loop-session
invariant-loop-session l = l.sessions ≡ map (closed_where (is_on l.connection)) (take l.session-index l.initial.sessions) ++ drop l.session-index l.initial.sessions
