-- What a session's thread holds, and what a client's call does there.
use Rattle.std.specs.Prelude.{◌≡◌, ℕ, ◌==◌, Bool, true, false, List, [], ◌∷◌, Result, Ok, Err, MatchResult, if◌then◌else◌}
use Rattle.jm_base.specs.declared.mode.Mode.TheVariants.{Auto}
use Rattle.jm_base.specs.declared.refusal.Refusal.{Refusal}
use Rattle.jm_base.specs.declared.refusal.Refusal.TheVariants.{IllegalState, Memory}
use Rattle.jm_dest.specs.declared.destination.Destination.{Destination}
use Rattle.jm_dest.specs.declared.session.SessionId.{SessionId}
use Rattle.jm_dest.specs.Names.{session_eq}
use Rattle.jm_header.specs.declared.content.Content.{Content}
use Rattle.jm_header.specs.declared.content.Sender.{Sender}
use Rattle.jm_header.specs.declared.content.Settings.{Settings}
use Rattle.jm_tx.specs.declared.buffer.Buffer.{Buffer}
use Rattle.jm_tx.specs.Buffers.{is_transacted, new_buffer, stamp_of, with_sent}
use Rattle.jm_machine.specs.declared.answer.Answer.{Answer}
use Rattle.jm_machine.specs.declared.answer.Answer.TheVariants.{Sent}
use Rattle.jm_machine.specs.declared.call.Who.{Who}
use Rattle.jm_machine.specs.declared.call.Who.TheVariants.{Connection, Session}
use Rattle.jm_machine.specs.declared.call.Request.{Request}
use Rattle.jm_machine.specs.declared.call.Request.TheVariants.{CloseConnection, CreateSession, CloseSession, Rollback}
use Rattle.jm_machine.specs.declared.call.Call.{Call}
use Rattle.jm_machine.specs.declared.call.Call.TheVariants.{Publish, Commit, Ask as AskStep}
use Rattle.jm_machine.specs.declared.call.ClientCall.{ClientCall}
use Rattle.jm_machine.specs.declared.call.ClientCall.TheVariants.{Ask, Send, CommitSession}
use Rattle.jm_machine.specs.declared.call.Step.{Step}
use Rattle.jm_audit.specs.Passes.{Calls}
use Rattle.jm_broker.specs.Calls.{Noted}
use Rattle.jm_seats.specs.declared.effect.Effect.{Effect}
use Rattle.jm_seats.specs.declared.effect.Effect.TheVariants.{Nothing, Opens, Closes, RollsBack}

-- what a session's thread holds: the session's half of its transaction, and the pass that notes its calls
pub record Seated : Type 0 where
  pub half : Buffer
  pub pass : Calls

-- the half of a session that is not open yet: nothing was sent
abbrev pub unopened : Sender → Buffer
unopened sender = record { sender = sender; mode = Auto; sent = 0; messages = []; is_closed = true }

-- what a request of its connection means for a session, where it is accepted
abbrev pub connection_effect : Request → Effect
connection_effect CloseConnection = Closes
connection_effect request = Nothing

-- what a request of its own does
abbrev pub session_effect : Request → Effect
session_effect (CreateSession mode) = Opens mode
session_effect CloseSession = Closes
session_effect Rollback = RollsBack
session_effect request = Nothing

-- what a request means for a session, where it is accepted: those of other sessions and connections mean nothing
abbrev pub effect_of : SessionId → Who → Request → Effect
effect_of s (Connection c) request = if s.connection == c then connection_effect request else Nothing
effect_of s (Session t) request = if session_eq s t then session_effect request else Nothing

-- the half then: as it opens, nothing was sent; as it closes and as its transaction is rolled back, what waits is dropped
abbrev pub with_effect : Effect → Buffer → Buffer
with_effect Nothing half = half
with_effect (Opens mode) half = new_buffer half.sender mode 0
with_effect Closes half = record half { messages = []; is_closed = true }
with_effect RollsBack half = record half { messages = [] }

-- the half after a request that was told so: a refused one means nothing
abbrev pub half_after : Who → Request → Result Answer Refusal → Buffer → Buffer
half_after who request (Ok a) half = with_effect (effect_of half.sender.session who request) half
half_after who request (Err refusal) half = half

-- the half after a commit that was told so: what waited is published; a refused one leaves it
abbrev pub half_after_commit : Result Answer Refusal → Buffer → Buffer
half_after_commit (Ok a) half = record half { messages = [] }
half_after_commit (Err refusal) half = half

-- the step of a request
abbrev pub asked : Who → Request → Step
asked who request = record { who = who; call = AskStep request }

-- a call of the session
abbrev pub by_session : SessionId → Call → Step
by_session s call = record { who = Session s; call = call }

-- the step by which a session publishes one message
abbrev pub published : SessionId → Content → Step
published s m = by_session s (Publish (m ∷ []))

-- the step by which it commits what it sent
abbrev pub committed : SessionId → List Content → Step
committed s messages = by_session s (Commit messages)

-- the messages that a call carries
abbrev pub messages_of : Call → List Content
messages_of (AskStep request) = []
messages_of (Publish messages) = messages
messages_of (Commit messages) = messages

-- what a send is told whose message was to be published: its number, where that was accepted
abbrev pub told_sent : ℕ → Result Answer Refusal → Result Answer Refusal
told_sent n (Ok a) = Ok (Sent n)
told_sent n (Err refusal) = Err refusal

-- the message is published by one step, and the send is told so
pub record PublishFits (s : SessionId) (m : Content) (old new : Calls) (r : Result Answer Refusal) : Type 0 where
  pub told : Result Answer Refusal
  pub noted : Noted old new (published s m) told
  pub is : r ≡ told_sent m.number told

-- a send whose message is stamped. In a transacted session no step is made: the message waits for the commit behind all that
-- waited, and its number is told; or memory is wanted, and all is as before. In any other its number is used, and it is
-- published
abbrev pub StampedFits : Bool → Content → Seated → Result Answer Refusal → Seated → Type 0
StampedFits true m old r new =
    MatchResult r
    (λ answer. (answer ≡ Sent m.number) × (new ≡ record old { half = with_sent true m old.half }))
    (λ refusal. (refusal ≡ Memory) × (new ≡ old))
StampedFits false m old r new = (new.half ≡ with_sent false m old.half) × PublishFits old.half.sender.session m old.pass new.pass r

-- a send, by its stamp: one that is not stamped makes no step, and leaves all as before
abbrev pub SendFits : Result Content Refusal → Seated → Result Answer Refusal → Seated → Type 0
SendFits (Ok m) old r new = StampedFits (is_transacted old.half.mode) m old r new
SendFits (Err refusal) old r new = (r ≡ Err refusal) × (new ≡ old)

-- the message of a send at the seat, or why it is not stamped: nobody sends at the seat of another session
abbrev pub stamp_at : Buffer → SessionId → Settings → Destination → ℕ → Result Content Refusal
stamp_at half s draft destination now = if session_eq half.sender.session s then stamp_of half draft destination now else Err IllegalState

-- a commit at the session's own seat makes one step, with all that waits; one of another session makes none
abbrev pub CommitFits : Bool → Seated → Result Answer Refusal → Seated → Type 0
CommitFits true old r new =
    Noted old.pass new.pass (committed old.half.sender.session old.half.messages) r × (new.half ≡ half_after_commit r old.half)
CommitFits false old r new = (r ≡ Err IllegalState) × (new ≡ old)

-- what a client's call is told at a seat, and what the seat is then: a request makes one step
abbrev pub SeatFits : Seated → ClientCall → Result Answer Refusal → Seated → Type 0
SeatFits old (Ask who request) r new = Noted old.pass new.pass (asked who request) r × (new.half ≡ half_after who request r old.half)
SeatFits old (Send s draft destination now) r new = SendFits (stamp_at old.half s draft destination now) old r new
SeatFits old (CommitSession s) r new = CommitFits (session_eq old.half.sender.session s) old r new

-- what calls in turn are told at a seat, and what it is then
abbrev pub SeatRan : Seated → List ClientCall → List (Result Answer Refusal) → Seated → Type 0
SeatRan old [] [] new = new ≡ old
SeatRan old [] (r ∷ replies) new = ⊥
SeatRan old (call ∷ calls) [] new = ⊥
SeatRan old (call ∷ calls) (r ∷ replies) new = (next : Seated) × SeatFits old call r next × SeatRan next calls replies new
