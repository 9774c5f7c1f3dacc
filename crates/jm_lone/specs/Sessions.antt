-- Which sessions a close is about.
use Rattle.std.specs.Prelude.{ℕ, Bool, ◌==◌}
use Rattle.jm_dest.specs.declared.session.SessionId.{SessionId}
use Rattle.jm_dest.specs.Names.{session_eq}

-- the session is one of the connection
abbrev pub is_on : ℕ → SessionId → Bool
is_on c s = s.connection == c

-- the session is that one
abbrev pub is_session : SessionId → SessionId → Bool
is_session s t = session_eq t s
