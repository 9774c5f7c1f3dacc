-- What the entries of a record have said so far of connections, sessions and transactions.
use Rattle.std.specs.Prelude.{◌≡◌, ℕ, Bool, true, false, ◌&&◌, ◌==◌, not, List, [], ◌∷◌, ◌++◌, Option, Some, None, option_map, is_some, is_ok, slice_get, if◌then◌else◌}
use Rattle.jm_base.specs.declared.mode.Mode.{Mode}
use Rattle.jm_dest.specs.declared.session.SessionId.{SessionId}
use Rattle.jm_dest.specs.Names.{session_eq}
use Rattle.jm_header.specs.declared.content.Content.{Content}
use Rattle.jm_machine.specs.declared.call.Who.TheVariants.{Connection, Session}
use Rattle.jm_machine.specs.declared.call.Request.TheVariants.{Open, CloseConnection, CreateSession, CloseSession, Rollback}
use Rattle.jm_machine.specs.declared.entry.Entry.{Entry}
use Rattle.jm_machine.specs.declared.entry.Entry.TheVariants.{Asked, Sent, Committed}
use Rattle.jm_machine.specs.declared.state.ConnectionState.{ConnectionState}
use Rattle.jm_machine.specs.declared.state.SessionState.{SessionState}
use Rattle.jm_machine.specs.Life.{Life, connection_of, session_of, client_at, open_mode, mode_of, is_open_connection}
use Rattle.jm_machine.specs.Machine.{is_transacted}
use Rattle.jm_machine.specs.Entries.{pending}

-- what was said: whether a connection is open, none where it was not opened; the client for which it was opened, if any,
-- until it closes; the mode of a session, none where it was not opened, and no mode where it was closed; and where
-- among the entries the messages stand that a session has sent since its transaction began
pub record Course : Type 0 where
  pub connection : ℕ → Option Bool
  pub client : ℕ → Option (List ℕ)
  pub session : SessionId → Option (Option Mode)
  pub sent : SessionId → List ℕ

-- a connection is open
abbrev pub is_up : Option Bool → Bool
is_up None = false
is_up (Some b) = b

-- the mode of a session that was opened and not closed
abbrev pub mode_left : Option (Option Mode) → Option Mode
mode_left None = None
mode_left (Some mode) = mode

-- the mode of a session that is open: its connection is open too
abbrev pub mode_in : Course → SessionId → Option Mode
mode_in x s = if is_up (x.connection s.connection) then mode_left (x.session s) else None

-- the session may still commit: it was not opened yet, or as a transacted one, and was not closed
abbrev pub may_commit : Option (Option Mode) → Bool
may_commit None = true
may_commit (Some mode) = is_transacted mode

-- the places of what a commit of the session publishes
abbrev pub committed_places : Course → SessionId → List ℕ
committed_places x s = if is_transacted (mode_in x s) then x.sent s else []

-- a connection of a new number is opened for that client, or for none
abbrev pub opened : ℕ → Option (List ℕ) → Course → Course
opened c client x =
    if is_some (x.connection c)
    then x
    else record x { connection = λ d. if c == d then Some true else x.connection d; client = λ d. if c == d then client else x.client d }

-- a connection that was opened closes
abbrev pub connection_closed : ℕ → Course → Course
connection_closed c x = record x {
  connection = λ d. if is_some (x.connection c) && (c == d) then Some false else x.connection d;
  client = λ d. if is_some (x.connection c) && (c == d) then None else x.client d;
}

-- the transactions of a connection's sessions end
abbrev pub all_ended : ℕ → Course → Course
all_ended c x = record x { sent = λ s. if s.connection == c then [] else x.sent s }

-- a connection closes with its sessions
abbrev pub shut : ℕ → Course → Course
shut c x = all_ended c (connection_closed c x)

-- a session is opened, where its connection is open and its number is new
abbrev pub created : SessionId → Mode → Course → Course
created s mode x =
    if is_up (x.connection s.connection) && not (is_some (x.session s))
    then record x { session = λ t. if session_eq s t then Some (Some mode) else x.session t }
    else x

-- a session's transaction ends
abbrev pub ended : SessionId → Course → Course
ended s x = record x { sent = λ t. if session_eq s t then [] else x.sent t }

-- a session that was opened closes
abbrev pub session_closed : SessionId → Course → Course
session_closed s x = record x { session = λ t. if is_some (x.session s) && session_eq s t then Some None else x.session t }

-- and its transaction ends
abbrev pub left : SessionId → Course → Course
left s x = ended s (session_closed s x)

-- one more message of a session's transaction stands at that place
abbrev pub kept : SessionId → ℕ → Course → Course
kept s place x = record x { sent = λ t. if session_eq s t then x.sent s ++ place ∷ [] else x.sent t }

-- what was said once an entry at that place said more; of the calls by connections the accepted ones count
unfoldable pub noted : ℕ → Entry → Course → Course
noted place (Asked (Connection c) (Open client) told) x = if is_ok told then opened c client x else x
noted place (Asked (Connection c) CloseConnection told) x = if is_ok told then shut c x else x
noted place (Asked (Connection c) request told) x = x
noted place (Asked (Session s) (CreateSession mode) told) x = created s mode x
noted place (Asked (Session s) CloseSession told) x = left s x
noted place (Asked (Session s) Rollback told) x = ended s x
noted place (Asked (Session s) request told) x = x
noted place (Sent m) x = if may_commit (x.session m.sender.session) then kept m.sender.session place x else x
noted place (Committed s) x = ended s x

-- the message that an entry sent, where there is one
abbrev pub message_in : Option Entry → List Content
message_in None = []
message_in (Some (Asked who request told)) = []
message_in (Some (Sent m)) = m ∷ []
message_in (Some (Committed s)) = []

-- the messages that were sent at those places among the entries
abbrev pub messages_at : List Entry → List ℕ → List Content
messages_at entries [] = []
messages_at entries (place ∷ places) = message_in (slice_get entries place) ++ messages_at entries places

-- what was said is so of the connections and sessions, and of the entries before, newest first
pub record Follows (entries : List Entry) (life : Life) (before : List Entry) (x : Course) : Type 0 where
  pub connections : (c : ℕ) → x.connection c ≡ option_map (λ k. k.is_open) (connection_of life.connections c)
  pub clients : (c : ℕ) → x.client c ≡ client_at (connection_of life.connections c)
  pub known : (s : SessionId) → is_some (x.session s) ≡ is_some (session_of life.sessions s)
  pub modes : (s : SessionId) → mode_in x s ≡ mode_of life s
  pub nested : (s : SessionId) → is_some (x.session s) ≡ true → is_some (x.connection s.connection) ≡ true
  pub sent : (s : SessionId) → may_commit (x.session s) ≡ true → messages_at entries (x.sent s) ≡ pending s before

-- a session that was opened has a connection that was opened, and one that is open has one that is open
pub record IsNested (connection : Option ConnectionState) (session : Option SessionState) : Type 0 where
  pub opened_in : is_some session ≡ true → is_some connection ≡ true
  pub open_in : is_some (open_mode session) ≡ true → is_open_connection connection ≡ true

-- and so of every number
abbrev pub AreNested : List ConnectionState → List SessionState → Type 0
AreNested connections sessions = (s : SessionId) → IsNested (connection_of connections s.connection) (session_of sessions s)
