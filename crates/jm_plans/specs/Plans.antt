-- Plans: steps that are prepared. No cause stands against the step, and there is room for what it changes.
use Rattle.std.specs.Prelude.{◌≡◌, ◌<◌, ◌&&◌, ℕ, true, false, IfSome, List, Option, Some, None, Result, Ok, Err, MatchBool, MatchResult, length, is_some}
use Rattle.jm_base.specs.declared.mode.Mode.TheVariants.{Client}
use Rattle.jm_base.specs.declared.refusal.Refusal.{Refusal}
use Rattle.jm_dest.specs.declared.session.SessionId.{SessionId}
use Rattle.jm_dest.specs.declared.key.Key.{Key}
use Rattle.jm_dest.specs.declared.key.Key.TheVariants.{Queue as OfQueue}
use Rattle.jm_header.specs.declared.content.Content.{Content}
use Rattle.jm_machine.specs.declared.answer.Answer.{Answer}
use Rattle.jm_machine.specs.declared.answer.Answer.TheVariants.{Done}
use Rattle.jm_machine.specs.declared.call.Who.{Who}
use Rattle.jm_machine.specs.declared.call.Who.TheVariants.{Connection, Session}
use Rattle.jm_machine.specs.declared.call.Call.{Call}
use Rattle.jm_machine.specs.declared.call.Call.TheVariants.{Ask, Publish, Commit}
use Rattle.jm_machine.specs.declared.call.Request.{Request}
use Rattle.jm_machine.specs.declared.call.Request.TheVariants as requests
use Rattle.jm_machine.specs.declared.state.Consumer.{Consumer}
use Rattle.jm_machine.specs.Life.{client_of, connection_of, is_client_taken, is_new_session, is_open_connection, is_started, mode_of}
use Rattle.jm_machine.specs.Machine.{State, after, answer, consumer_of, durable_of, held, is_free, is_stamped, is_transacted, is_untransacted, joined, key_at, may_be_done, may_begin, may_close_consumer, may_close_session, may_receive, may_set_listener, may_take, may_use, refusal, reply, selected_by}
use Rattle.jm_machine.specs.Wants.{is_want, may_want}
use Rattle.jm_session.specs.Sources.{Origin}
use Rattle.jm_sub.specs.Subscriptions.{Subscription}
use Rattle.jm_parts.specs.declared.publish.Publication.{Publication}
use Rattle.jm_parts.specs.declared.receive.Receiver.{Receiver}
use Rattle.jm_parts.specs.declared.receive.Taking.{Taking}
use Rattle.jm_plans.specs.declared.plan.Change.{Change}
use Rattle.jm_plans.specs.declared.plan.Change.TheVariants as change
use Rattle.jm_plans.specs.Named.{IsDecided, IsDecidedFor, put_decided}
use Rattle.jm_plans.specs.Provider.{Provider, state_of}
use Rattle.jm_plans.specs.Publications.{ArePrepared}
use Rattle.jm_machine.specs.Attached.{IsOwn}
use Rattle.jm_plans.specs.Steps.{StepFits}
use Rattle.jm_parts.specs.Takings.{IsTaken, IsTakenFrom, is_queue, missed_at, source_of}

-- the call opens the connection for that client, or for none: the number was not used, no open connection has the client,
-- and there is room for it
pub record IsOpening (p : Provider) (who : Who) (call : Call) (c : ℕ) (client : Option (List ℕ)) : Type 0 where
  pub sender : who ≡ Connection c
  pub asked : call ≡ Ask (requests.Open client)
  pub new : connection_of p.known.life.connections c ≡ None
  pub free : is_client_taken p.known.life client ≡ false
  pub room : 0 < p.known.spare

-- the call makes the session's consumer of that source: no cause stands against it, it is done, and it leaves the state in
-- which the subscription that was decided, where one was, is put, and then the consumer joins; of one that has a name that is
-- decided which it asks for, where it does not stand already; the number is free, a key that is a consumer's own is this
-- one's, and there is room for the consumer
pub record IsCreating (p : Provider) (who : Who) (call : Call) (s : SessionId) (c : ℕ) (source : Origin) (decision : Option (Key × Subscription)) : Type 0 where
  pub request : Request
  pub sender : who ≡ Session s
  pub asked : call ≡ Ask request
  pub allowed : refusal p.known.life p.known.consumers (held (state_of p) (Session s) request) (Session s) request ≡ None
  pub told : answer p.known.life p.known.consumers (held (state_of p) (Session s) request) (Session s) request ≡ Done
  pub left : after (state_of p) (Session s) request ≡ joined s c source.key source.selector (put_decided decision (state_of p))
  pub chosen : IsDecidedFor (state_of p) s request decision
  pub begins : may_begin p.known.life p.known.consumers s c ≡ true
  pub own : IsOwn s c source.key
  pub room : 0 < p.known.spare
  pub decided : IsDecided p source.key decision

-- the call deletes the durable subscription of the key, which its session means by the name: the session is open, and the
-- subscription is there and free
pub record IsDeleting (p : Provider) (who : Who) (call : Call) (key : Key) : Type 0 where
  pub session : SessionId
  pub name : List ℕ
  pub sender : who ≡ Session session
  pub asked : call ≡ Ask (requests.Unsubscribe name)
  pub named : key ≡ durable_of (client_of p.known.life) session name
  pub opened : is_some (mode_of p.known.life session) ≡ true
  pub there : is_some (held (state_of p) (Session session) (requests.Unsubscribe name)).definition ≡ true
  pub free : is_free (held (state_of p) (Session session) (requests.Unsubscribe name)) ≡ true

-- the call is the receiver's, in the mode of its session: it receives at that moment, as it may, and takes what stands under
-- the consumer's key, which is no queue's, with the copy that it wants
pub record IsReceiving (p : Provider) (who : Who) (call : Call) (r : Receiver) (taking : Option Taking) : Type 0 where
  pub sender : who ≡ Session r.session
  pub asked : call ≡ Ask (requests.Receive r.consumer r.moment)
  pub mode : mode_of p.known.life r.session ≡ Some r.mode
  pub allowed : may_receive p.known.life p.known.consumers r.session r.consumer ≡ true
  pub apart : is_queue (key_at (source_of p.known.life p.known.consumers r.session r.consumer)) ≡ false
  pub taken : IsTaken (key_at (source_of p.known.life p.known.consumers r.session r.consumer)) r p.held.keys p.held.list taking
  pub within : IfSome taking (λ x. x.index < length p.held.list)

-- the same where the consumer is one of a queue: it takes what stands there and its selector selects
pub record IsReceivingFrom (p : Provider) (who : Who) (call : Call) (r : Receiver) (taking : Option Taking) : Type 0 where
  pub consumer : Consumer
  pub queue : List ℕ
  pub sender : who ≡ Session r.session
  pub asked : call ≡ Ask (requests.Receive r.consumer r.moment)
  pub mode : mode_of p.known.life r.session ≡ Some r.mode
  pub allowed : may_receive p.known.life p.known.consumers r.session r.consumer ≡ true
  pub source : source_of p.known.life p.known.consumers r.session r.consumer ≡ Some consumer
  pub key : consumer.key ≡ OfQueue queue
  pub taken : IsTakenFrom queue (selected_by (Some consumer)) r p.queues taking

-- the call is one for the receiver's listener, on a connection that is started: it takes at that moment, as it may, what
-- stands under the consumer's key, which is no queue's, with the copy that it wants. What it takes stays held, as in a
-- session whose client acknowledges
pub record IsTaking (p : Provider) (who : Who) (call : Call) (r : Receiver) (taking : Option Taking) : Type 0 where
  pub sender : who ≡ Session r.session
  pub asked : call ≡ Ask (requests.Take r.consumer r.moment)
  pub mode : r.mode ≡ Client
  pub allowed : may_take p.known.life p.known.consumers r.session r.consumer ≡ true
  pub started : is_started p.known.life r.session.connection ≡ true
  pub apart : is_queue (key_at (consumer_of p.known.consumers r.session r.consumer)) ≡ false
  pub taken : IsTaken (key_at (consumer_of p.known.consumers r.session r.consumer)) r p.held.keys p.held.list taking
  pub within : IfSome taking (λ x. x.index < length p.held.list)

-- the same where the consumer is one of a queue: its listener takes what stands there and its selector selects
pub record IsTakingFrom (p : Provider) (who : Who) (call : Call) (r : Receiver) (taking : Option Taking) : Type 0 where
  pub consumer : Consumer
  pub queue : List ℕ
  pub sender : who ≡ Session r.session
  pub asked : call ≡ Ask (requests.Take r.consumer r.moment)
  pub mode : r.mode ≡ Client
  pub allowed : may_take p.known.life p.known.consumers r.session r.consumer ≡ true
  pub started : is_started p.known.life r.session.connection ≡ true
  pub source : consumer_of p.known.consumers r.session r.consumer ≡ Some consumer
  pub key : consumer.key ≡ OfQueue queue
  pub taken : IsTakenFrom queue (selected_by (Some consumer)) r p.queues taking

-- the call is one for a listener that may take, on a connection that is stopped
pub record IsIdling (p : Provider) (who : Who) (call : Call) : Type 0 where
  pub session : SessionId
  pub consumer : ℕ
  pub moment : ℕ
  pub sender : who ≡ Session session
  pub asked : call ≡ Ask (requests.Take consumer moment)
  pub allowed : may_take p.known.life p.known.consumers session consumer ≡ true
  pub stopped : is_started p.known.life session.connection ≡ false

-- the call asks, as it may, what the consumer's subscription missed, and that is so many publications
pub record IsMissing (p : Provider) (who : Who) (call : Call) (n : ℕ) : Type 0 where
  pub session : SessionId
  pub consumer : ℕ
  pub sender : who ≡ Session session
  pub asked : call ≡ Ask (requests.Missed consumer)
  pub allowed : may_use p.known.life p.known.consumers session consumer ≡ true
  pub number : n ≡ missed_at (key_at (consumer_of p.known.consumers session consumer)) (state_of p).stations

-- the call publishes those messages: its session is open and not transacted and stamped them, and the publications are
-- prepared
pub record IsPublishing (p : Provider) (who : Who) (call : Call) (publications : List Publication) : Type 0 where
  pub session : SessionId
  pub messages : List Content
  pub sender : who ≡ Session session
  pub asked : call ≡ Publish messages
  pub stamped : (is_untransacted (mode_of p.known.life session) && is_stamped p.opening session messages) ≡ true
  pub prepared : ArePrepared p messages publications

-- the call commits the session's transaction, which sent those messages: the session is open and transacted and stamped
-- them, and the publications are prepared
pub record IsCommitting (p : Provider) (who : Who) (call : Call) (s : SessionId) (publications : List Publication) : Type 0 where
  pub messages : List Content
  pub sender : who ≡ Session s
  pub asked : call ≡ Commit messages
  pub stamped : (is_transacted (mode_of p.known.life s) && is_stamped p.opening s messages) ≡ true
  pub prepared : ArePrepared p messages publications

-- the plan is that of the caller's call, on what is held: no cause stands against it, and there is room for it
abbrev pub IsPlan : Provider → Who → Call → Change → Type 0
IsPlan p who call (change.Open c client) = IsOpening p who call c client
IsPlan p who call (change.Start c) =
    (who ≡ Connection c) × (call ≡ Ask requests.Start) × (is_open_connection (connection_of p.known.life.connections c) ≡ true)
IsPlan p who call (change.Stop c) =
    (who ≡ Connection c) × (call ≡ Ask requests.Stop) × (is_open_connection (connection_of p.known.life.connections c) ≡ true)
IsPlan p who call (change.CloseConnection c) =
    (who ≡ Connection c) × (call ≡ Ask requests.CloseConnection) × (is_some (connection_of p.known.life.connections c) ≡ true)
IsPlan p who call (change.CreateSession s mode) =
    (who ≡ Session s) × (call ≡ Ask (requests.CreateSession mode)) × (is_new_session p.known.life s ≡ true) × (0 < p.known.spare)
IsPlan p who call (change.CloseSession s) =
    (who ≡ Session s) × (call ≡ Ask requests.CloseSession) × (may_close_session p.known.life s ≡ true)
IsPlan p who call (change.CreateConsumer s c source decision) = IsCreating p who call s c source decision
IsPlan p who call (change.Unsubscribe key) = IsDeleting p who call key
IsPlan p who call (change.CloseConsumer s c) =
    (who ≡ Session s) × (call ≡ Ask (requests.CloseConsumer c)) × (may_close_consumer p.known.life p.known.consumers s c ≡ true)
IsPlan p who call (change.Receive r taking) = IsReceiving p who call r taking
IsPlan p who call (change.ReceiveFrom r taking) = IsReceivingFrom p who call r taking
IsPlan p who call (change.SetListener s c on) =
    (who ≡ Session s) × (call ≡ Ask (requests.SetListener c on)) × (may_set_listener p.known.life p.known.consumers s c ≡ true)
IsPlan p who call (change.Take r taking) = IsTaking p who call r taking
IsPlan p who call (change.TakeFrom r taking) = IsTakingFrom p who call r taking
IsPlan p who call change.Nothing = IsIdling p who call
IsPlan p who call (change.Done s c mode ok) =
    (who ≡ Session s) × (call ≡ Ask (requests.Done c ok)) × (mode_of p.known.life s ≡ Some mode) × (may_be_done p.known.life p.known.consumers s c ≡ true)
IsPlan p who call (change.Acknowledge s mode) =
    (who ≡ Session s) × (call ≡ Ask requests.Acknowledge) × (mode_of p.known.life s ≡ Some mode)
IsPlan p who call (change.Recover s) =
    (who ≡ Session s) × (call ≡ Ask requests.Recover) × (is_untransacted (mode_of p.known.life s) ≡ true)
IsPlan p who call (change.Rollback s) =
    (who ≡ Session s) × (call ≡ Ask requests.Rollback) × (is_transacted (mode_of p.known.life s) ≡ true)
IsPlan p who call (change.Missed n) = IsMissing p who call n
IsPlan p who call (change.Publish publications) = IsPublishing p who call publications.items
IsPlan p who call (change.Commit s publications) = IsCommitting p who call s publications.items

-- the plan is that of some call, on what is held
abbrev pub IsPlanned : Provider → Change → Type 0
IsPlanned p change = (who : Who) × (call : Call) × IsPlan p who call change

-- the refusal is the machine's; or it says that memory is wanted, only where the call takes memory
abbrev pub IsRefused : State → Who → Call → Refusal → Type 0
IsRefused state who call refusal =
    MatchBool (is_want (Err refusal))
    (may_want state who call ≡ true)
    (Err refusal ≡ reply state who call)

-- planning leaves the state as it was, and gives a plan of the call, or why it is refused
abbrev pub PlanFits : Provider → Who → Call → Result Change Refusal → Provider → Type 0
PlanFits old who call result new =
    (state_of new ≡ state_of old)
    × MatchResult result (IsPlan new who call) (IsRefused (state_of old) who call)

-- the answer and the state are those of the machine's step, for the call that the plan is of
abbrev pub InstallFits : Provider → Change → Answer → Provider → Type 0
InstallFits old change answer new =
    (who : Who) (call : Call) → IsPlan old who call change → StepFits (state_of old) who call (Ok answer) (state_of new)

-- the answer is that of the machine, for the call that the plan is of
abbrev pub IsAnswer : Provider → Change → Answer → Type 0
IsAnswer p change answer = (who : Who) (call : Call) → IsPlan p who call change → Ok answer ≡ reply (state_of p) who call
