-- The record of a run: calls with their replies, messages that were sent, and commits, in order.
use Rattle.std.specs.Prelude.{ℕ, Bool, true, false, ◌&&◌, ◌==◌, List, [], ◌∷◌, ◌++◌, map, Result, Ok, Err, is_ok, if◌then◌else◌}
use Rattle.jm_base.specs.declared.refusal.Refusal.{Refusal}
use Rattle.jm_base.specs.declared.refusal.Refusal.TheVariants.{Memory, Store}
use Rattle.jm_dest.specs.declared.session.SessionId.{SessionId}
use Rattle.jm_dest.specs.Names.{session_eq}
use Rattle.jm_header.specs.declared.content.Content.{Content}
use Rattle.jm_header.specs.Headers.{stamped}
use Rattle.jm_machine.specs.declared.call.Who.{Who}
use Rattle.jm_machine.specs.declared.call.Who.TheVariants.{Connection, Session}
use Rattle.jm_machine.specs.declared.call.Request.{Request}
use Rattle.jm_machine.specs.declared.call.Request.TheVariants.{CloseConnection, CloseSession, Rollback}
use Rattle.jm_machine.specs.declared.call.Call.{Call}
use Rattle.jm_machine.specs.declared.call.Call.TheVariants.{Publish, Commit, Ask as AskStep}
use Rattle.jm_machine.specs.declared.call.ClientCall.{ClientCall}
use Rattle.jm_machine.specs.declared.call.ClientCall.TheVariants.{Ask, Send, CommitSession}
use Rattle.jm_machine.specs.declared.answer.Answer.{Answer}
use Rattle.jm_machine.specs.declared.answer.Answer.TheVariants.{Sent as SentAs}
use Rattle.jm_machine.specs.declared.entry.Entry.{Entry}
use Rattle.jm_machine.specs.declared.entry.Entry.TheVariants.{Asked, Sent, Committed}
use Rattle.jm_machine.specs.declared.entry.Event.{Event}
use Rattle.jm_machine.specs.Life.{Life, life_after, mode_of}
use Rattle.jm_machine.specs.Machine.{is_transacted}

-- the entry of a message that is stamped
abbrev pub sent_entry : Result Content Refusal → List Entry
sent_entry (Ok m) = Sent m ∷ []
sent_entry (Err r) = []

-- a reply after which a call counts as not made: memory was wanted, or the store refused
abbrev pub is_not_made : Result Answer Refusal → Bool
is_not_made (Err Memory) = true
is_not_made (Err Store) = true
is_not_made _ = false

-- what a client's call leaves in the record: nothing, where it counts as not made, or where a send or a commit was
-- refused
abbrev pub entry_of : ℕ → ClientCall → Result Answer Refusal → List Entry
entry_of opening (Ask who request) r = if is_not_made r then [] else Asked who request r ∷ []
entry_of opening (Send s draft destination now) (Ok (SentAs n)) = sent_entry (stamped draft destination (record { opening = opening; session = s }) n now)
entry_of opening (Send s draft destination now) _ = []
entry_of opening (CommitSession s) (Ok a) = Committed s ∷ []
entry_of opening (CommitSession s) (Err r) = []

-- the record of a run in that opening
abbrev pub entries_of : ℕ → List ClientCall → List (Result Answer Refusal) → List Entry
entries_of opening [] replies = []
entries_of opening (call ∷ calls) [] = []
entries_of opening (call ∷ calls) (r ∷ replies) = entry_of opening call r ++ entries_of opening calls replies

-- messages that were sent, as entries
abbrev pub sent_entries : List Content → List Entry
sent_entries messages = map (λ m. Sent m) messages

-- what a step leaves in the record: of a publication that was accepted its messages, and of a commit its messages and
-- then the commit; nothing of one that was refused, or of a step that counts as not made
abbrev pub step_entries : Who → Call → Result Answer Refusal → List Entry
step_entries who (AskStep request) r = if is_not_made r then [] else Asked who request r ∷ []
step_entries who (Publish messages) r = if is_ok r then sent_entries messages else []
step_entries (Connection c) (Commit messages) r = []
step_entries (Session s) (Commit messages) r = if is_ok r then sent_entries messages ++ Committed s ∷ [] else []

-- the record of a list of events
abbrev pub expand : List Event → List Entry
expand [] = []
expand (e ∷ events) = step_entries e.step.who e.step.call e.reply ++ expand events

-- the connections and sessions after an entry: of the calls by connections the accepted ones count
unfoldable pub life_after_entry : Life → Entry → Life
life_after_entry life (Asked (Connection c) request told) = if is_ok told then life_after life (Connection c) request else life
life_after_entry life (Asked (Session s) request told) = life_after life (Session s) request
life_after_entry life (Sent m) = life
life_after_entry life (Committed s) = life

-- Committed publications

-- a request ends a session's transaction without a commit: its rollback, its close, or the close of its connection, where
-- that was accepted
abbrev pub drops : SessionId → Who → Request → Result Answer Refusal → Bool
drops s (Connection c) CloseConnection told = (s.connection == c) && is_ok told
drops s (Session t) CloseSession told = session_eq t s
drops s (Session t) Rollback told = session_eq t s
drops s who request told = false

-- what the session has sent since its transaction began, in order; the entries are listed newest first
abbrev pub pending : SessionId → List Entry → List Content
pending s [] = []
pending s (Asked who request told ∷ before) = if drops s who request told then [] else pending s before
pending s (Sent m ∷ before) = if session_eq m.sender.session s then pending s before ++ m ∷ [] else pending s before
pending s (Committed t ∷ before) = if session_eq t s then [] else pending s before

-- the committed publications at an entry, the entries before it being listed newest first: a message of a session that
-- is not transacted is published as it is sent, and one of a transacted session at the first later commit of the
-- session, where no rollback or close stands between
unfoldable pub committed : Life → List Entry → Entry → List Content
committed life before (Asked who request told) = []
committed life before (Sent m) = if is_transacted (mode_of life m.sender.session) then [] else m ∷ []
committed life before (Committed s) = if is_transacted (mode_of life s) then pending s before else []
