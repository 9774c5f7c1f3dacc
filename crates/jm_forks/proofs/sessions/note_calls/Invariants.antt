use Rattle.std.proofs.Common.{◌≡◌, drop}
use Rattle.jm_forks.specs.Forks.{with_sessions}
use Rattle.jm_forks.proofs.sessions.note_calls.Given as goal

-- the sessions so far, with those of the other calls, are those of all
abbrev pub invariant-loop-call : goal.invariant-loop-call
invariant-loop-call l = with_sessions l.sessions.keys (drop l.call-index l.calls) ≡ with_sessions l.initial.sessions.keys l.calls
