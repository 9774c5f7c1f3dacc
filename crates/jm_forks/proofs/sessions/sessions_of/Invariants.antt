use Rattle.std.proofs.Common.{◌≡◌, drop}
use Rattle.jm_forks.specs.Forks.{calls_of_parts, sessions_of, with_sessions}
use Rattle.jm_forks.proofs.sessions.sessions_of.Given as goal

-- the sessions so far, with those of the other parts, are those of all
abbrev pub invariant-loop-part : goal.invariant-loop-part
invariant-loop-part l = with_sessions l.sessions.keys (calls_of_parts (drop l.part-index l.parts)) ≡ sessions_of l.parts
