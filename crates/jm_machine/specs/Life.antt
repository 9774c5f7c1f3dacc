-- Which connections and sessions are open, and which connections are started (Jakarta Messaging 3.1,
-- sections 6.1 and 6.2; that the caller chooses the numbers is ours).
use Rattle.std.specs.Prelude.{ℕ, Bool, true, false, ◌&&◌, not, ◌==◌, List, [], ◌∷◌, ◌++◌, filter, map, find, Option, Some, None, is_some, if◌then◌else◌}
use Rattle.jm_base.specs.declared.mode.Mode.{Mode}
use Rattle.jm_dest.specs.declared.session.SessionId.{SessionId}
use Rattle.std.specs.List.{list_any}
use Rattle.jm_dest.specs.Names.{client_eq, session_eq}
use Rattle.jm_machine.specs.declared.call.Who.{Who}
use Rattle.jm_machine.specs.declared.call.Who.TheVariants.{Connection, Session}
use Rattle.jm_machine.specs.declared.call.Request.{Request}
use Rattle.jm_machine.specs.declared.call.Request.TheVariants.{Open, Start, Stop, CloseConnection, CreateSession, CloseSession}
use Rattle.jm_machine.specs.declared.state.ConnectionState.{ConnectionState}
use Rattle.jm_machine.specs.declared.state.SessionState.{SessionState}
use Rattle.jm_machine.specs.Owns.{is_own, is_own_connection}

-- the connections and sessions that were opened, in order
pub record Life : Type 0 where
  pub connections : List ConnectionState
  pub sessions : List SessionState

-- the connection of that number, where it was opened
abbrev pub connection_of : List ConnectionState → ℕ → Option ConnectionState
connection_of connections c = find (λ x. x.id == c) connections

-- the session of that number, where it was opened
abbrev pub session_of : List SessionState → SessionId → Option SessionState
session_of sessions s = find (λ x. session_eq x.id s) sessions

-- a connection is open from its opening to its closing
abbrev pub is_open_connection : Option ConnectionState → Bool
is_open_connection None = false
is_open_connection (Some x) = x.is_open

-- a connection was opened, and is closed
abbrev pub is_closed_connection : Option ConnectionState → Bool
is_closed_connection None = false
is_closed_connection (Some x) = not x.is_open

-- a connection delivers messages while it is started
abbrev pub is_started_connection : Option ConnectionState → Bool
is_started_connection None = false
is_started_connection (Some x) = x.is_started

-- the client identifier of a connection, where it was opened and has one, which it keeps while it is open
abbrev pub client_at : Option ConnectionState → Option (List ℕ)
client_at None = None
client_at (Some x) = x.client

-- the client identifier of the connection of that number, where it is open and has one
abbrev pub client_of : Life → ℕ → Option (List ℕ)
client_of life c = client_at (connection_of life.connections c)

-- an open connection has the client identifier
abbrev pub is_client_open : List ConnectionState → List ℕ → Bool
is_client_open connections client = list_any (λ x. x.is_open && client_eq x.client (Some client)) connections

-- a client identifier that may be absent is there, and an open connection has it (Jakarta Messaging 3.1, section 6.1.2)
abbrev pub is_client_taken : Life → Option (List ℕ) → Bool
is_client_taken life None = false
is_client_taken life (Some client) = is_client_open life.connections client

-- the mode of a session that is open
abbrev pub open_mode : Option SessionState → Option Mode
open_mode None = None
open_mode (Some x) = if x.is_open then Some x.mode else None

-- the mode of that session, where it is open
abbrev pub mode_of : Life → SessionId → Option Mode
mode_of life s = open_mode (session_of life.sessions s)

-- the connection of that number is started
abbrev pub is_started : Life → ℕ → Bool
is_started life c = is_started_connection (connection_of life.connections c)

-- a session may be opened: its connection is open, and its number was not used
abbrev pub is_new_session : Life → SessionId → Bool
is_new_session life s = is_open_connection (connection_of life.connections s.connection) && not (is_some (session_of life.sessions s))

-- a connection, started or stopped where it is that one
abbrev pub started_if : ℕ → Bool → ConnectionState → ConnectionState
started_if c on x = if x.id == c then record x { is_started = on } else x

-- the connections, that one started or stopped
abbrev pub with_started : ℕ → Bool → List ConnectionState → List ConnectionState
with_started c on connections = map (started_if c on) connections

-- a connection, closed where it is that one; one that is closed is not started, and keeps no client
abbrev pub closed_if : ℕ → ConnectionState → ConnectionState
closed_if c x = if x.id == c then record x { client = None; is_started = false; is_open = false } else x

-- a session, closed where it passes
abbrev pub closed_where : (SessionId → Bool) → SessionState → SessionState
closed_where p x = if p x.id then record x { is_open = false } else x

-- the sessions, those that pass closed
abbrev pub close_sessions : (SessionId → Bool) → List SessionState → List SessionState
close_sessions p sessions = map (closed_where p) sessions

-- the connections and sessions after a call by a connection that was accepted, or after any call by a
-- session
unfoldable pub life_after : Life → Who → Request → Life
life_after life (Connection c) (Open client) = record life { connections = life.connections ++ record { id = c; client = client; is_started = false; is_open = true } ∷ [] }
life_after life (Connection c) Start = record life { connections = with_started c true life.connections }
life_after life (Connection c) Stop = record life { connections = with_started c false life.connections }
life_after life (Connection c) CloseConnection = record {
  connections = map (closed_if c) life.connections;
  sessions = close_sessions (λ s. s.connection == c) life.sessions;
}
life_after life (Session s) (CreateSession mode) =
    if is_new_session life s
    then record life { sessions = life.sessions ++ record { id = s; mode = mode; is_open = true } ∷ [] }
    else life
life_after life (Session s) CloseSession = record life { sessions = close_sessions (λ t. session_eq t s) life.sessions }
life_after life _ _ = life

-- the part that is about the given sessions and their connections
unfoldable pub own_life : List SessionId → Life → Life
own_life sessions life = record {
  connections = filter (λ x. is_own_connection sessions x.id) life.connections;
  sessions = filter (λ x. is_own sessions x.id) life.sessions;
}
