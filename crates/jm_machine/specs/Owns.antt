-- Which sessions and connections are among the given ones.
use Rattle.std.specs.Prelude.{ℕ, Bool, ◌==◌, List}
use Rattle.std.specs.List.{list_any}
use Rattle.jm_dest.specs.declared.session.SessionId.{SessionId}
use Rattle.jm_dest.specs.Names.{session_eq}

-- the session is one of these
abbrev pub is_own : List SessionId → SessionId → Bool
is_own sessions s = list_any (session_eq s) sessions

-- the connection is that of one of these sessions
abbrev pub is_own_connection : List SessionId → ℕ → Bool
is_own_connection sessions connection = list_any (λ s. s.connection == connection) sessions
