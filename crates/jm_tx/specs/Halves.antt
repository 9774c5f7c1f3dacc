-- What the sessions of a run sent, and what of it waits for a commit.
use Rattle.std.specs.Prelude.{◌≡◌, ◌⊎◌, ℕ, ◌+◌, ◌==◌, Bool, true, false, List, [], ◌∷◌, ◌++◌, Option, None, Some, is_some, Result, Ok, Err, MatchResult, if◌then◌else◌}
use Rattle.std.specs.HashMap.{get, spare}
use Rattle.jm_base.specs.declared.refusal.Refusal.{Refusal}
use Rattle.jm_base.specs.declared.refusal.Refusal.TheVariants.{Memory}
use Rattle.jm_dest.specs.declared.session.SessionId.{SessionId}
use Rattle.jm_dest.specs.Names.{session_eq}
use Rattle.jm_header.specs.declared.content.Content.{Content}
use Rattle.jm_tx.specs.declared.buffer.Buffer.{Buffer}
use Rattle.jm_tx.specs.declared.buffer.Sent.{Sent}
use Rattle.jm_tx.specs.declared.halves.Halves.{Halves}
use Rattle.jm_tx.specs.Buffers.{sent_as}

-- how many sends were stamped; none, where nothing is noted
abbrev pub sends_in : Option Buffer → ℕ
sends_in None = 0
sends_in (Some half) = half.sent

-- which messages wait; none, where nothing is noted
abbrev pub messages_in : Option Buffer → List Content
messages_in None = []
messages_in (Some half) = half.messages

-- how many sends of the session were stamped
unfoldable pub sent_of : Halves → SessionId → ℕ
sent_of halves s = sends_in (get session_eq halves.halves s)

-- which messages of the session wait for the commit, in the order of their sends
unfoldable pub kept_of : Halves → SessionId → List Content
kept_of halves s = messages_in (get session_eq halves.halves s)

-- for how many more sessions there is room
unfoldable pub room : Halves → ℕ
room halves = spare halves.halves

-- the session made a send
unfoldable pub has_sent : Halves → SessionId → Bool
has_sent halves s = is_some (get session_eq halves.halves s)

-- no send of any session was stamped
abbrev pub none_sent : SessionId → ℕ
none_sent s = 0

-- no message of any session waits
abbrev pub none_kept : SessionId → List Content
none_kept s = []

-- one more send of the session
abbrev pub one_more : SessionId → (SessionId → ℕ) → SessionId → ℕ
one_more s sent t = if session_eq s t then sent s + 1 else sent t

-- of that session these messages wait
abbrev pub with_messages : SessionId → List Content → (SessionId → List Content) → SessionId → List Content
with_messages s messages kept t = if session_eq s t then messages else kept t

-- of the sessions of that connection none waits
abbrev pub without_connection : ℕ → (SessionId → List Content) → SessionId → List Content
without_connection c kept t = if t.connection == c then [] else kept t

-- what waits after a send of the session: where it waits for the commit, it stands behind all that waited before
abbrev pub kept_after : Bool → SessionId → Content → (SessionId → List Content) → SessionId → List Content
kept_after true s m kept = with_messages s (kept s ++ m ∷ []) kept
kept_after false s m kept = kept

-- nothing is sent, and nothing is dropped
abbrev pub IsAsBefore : Halves → Halves → Type 0
IsAsBefore old new = (sent_of new ≡ sent_of old) × (kept_of new ≡ kept_of old)

-- there is no room for the session's first send
abbrev pub HasNoRoom : Halves → SessionId → Type 0
HasNoRoom halves s = (sent_of halves s ≡ 0) × (room halves ≡ 0)

-- what a send of the session answers and leaves, by its stamp, where what it sends waits for the commit or not: a refused
-- one leaves all as before; so does a want of memory, which comes only where the message waits for the commit, and where
-- there is no room for the session's first send
abbrev pub RunSendFits : Bool → SessionId → Halves → Result Content Refusal → Result Sent Refusal → Halves → Type 0
RunSendFits waits s old (Err refusal) result new = (result ≡ Err refusal) × IsAsBefore old new
RunSendFits waits s old (Ok m) result new =
    MatchResult result
    (λ sent. (sent ≡ sent_as waits m) × (sent_of new ≡ one_more s (sent_of old)) × (kept_of new ≡ kept_after waits s m (kept_of old)))
    (λ refusal. (refusal ≡ Memory) × ((waits ≡ true) ⊎ HasNoRoom old s) × IsAsBefore old new)

-- messages of the session may be put back: it made a send, or they are none
abbrev pub MayPutBack : Halves → SessionId → List Content → Type 0
MayPutBack halves s messages = (messages ≡ []) ⊎ (has_sent halves s ≡ true)
