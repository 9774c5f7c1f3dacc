-- Why a call is refused as IllegalState or as SubscriptionInUse: the first cause behind it that stands.
use Rattle.std.specs.Prelude.{◌≡◌, ℕ, Bool, true, false, ◌&&◌, ◌||◌, not, List, Option, Some, None, is_some, option_map, Result, Ok, Err, if◌then◌else◌}
use Rattle.jm_base.specs.declared.refusal.Refusal.{Refusal}
use Rattle.jm_base.specs.declared.refusal.Refusal.TheVariants as refusals
use Rattle.jm_dest.specs.declared.session.SessionId.{SessionId}
use Rattle.jm_dest.specs.declared.destination.Destination.{Destination}
use Rattle.jm_header.specs.declared.content.Content.{Content}
use Rattle.jm_machine.specs.declared.answer.Answer.{Answer}
use Rattle.jm_machine.specs.declared.call.Who.{Who}
use Rattle.jm_machine.specs.declared.call.Who.TheVariants.{Connection, Session}
use Rattle.jm_machine.specs.declared.call.Request.{Request}
use Rattle.jm_machine.specs.declared.call.Request.TheVariants.{Open, Start, Stop, CloseConnection, CreateSession, CloseSession, CreateConsumer, CreateDurable, CreateShared, CreateSharedDurable, Unsubscribe, CloseConsumer, Receive, Acknowledge, Recover, Rollback, Missed, SetListener, Take, Done as DoneWith}
use Rattle.jm_machine.specs.declared.call.Call.{Call}
use Rattle.jm_machine.specs.declared.call.Call.TheVariants.{Ask, Publish, Commit}
use Rattle.jm_machine.specs.declared.state.Definition.{Definition}
use Rattle.jm_machine.specs.declared.state.Consumer.{Consumer}
use Rattle.jm_machine.specs.Life.{Life, connection_of, session_of, client_of, is_open_connection, mode_of}
use Rattle.jm_machine.specs.Machine.{State, Holding, held, reply, consumer_of, is_active, is_listening, is_busy, may_close_session, is_same, is_same_kind, is_idle, is_home, is_of_topic, asked, is_transacted, is_untransacted, is_stamped}
use Rattle.jm_selector.specs.Selectors.{selector_refusal}
use Rattle.jm_why.specs.declared.cause.Why.{Why}
use Rattle.jm_why.specs.declared.cause.Why.TheVariants.{ConnectionNotOpen, SessionNotOpen, ConsumerNotOpen, NumberUsed, NoClient, Listening, NotListening, Busy, NotBusy, Transacted, NotTransacted, ForeignStamp, OtherCaller, OtherKind, OtherDefinition, ActiveConsumer, RowOut}

-- the refusal that a cause explains
abbrev pub refusal_of : Why → Refusal
refusal_of OtherKind = refusals.SubscriptionInUse
refusal_of OtherDefinition = refusals.SubscriptionInUse
refusal_of ActiveConsumer = refusals.SubscriptionInUse
refusal_of RowOut = refusals.SubscriptionInUse
refusal_of why = refusals.IllegalState

-- a cause, where the check fails
abbrev pub unless : Bool → Why → Option Why
unless true why = None
unless false why = Some why

-- the first of two causes, where one stands
abbrev pub first_why : Option Why → Option Why → Option Why
first_why None later = later
first_why (Some why) later = Some why

-- Connections and sessions

-- a session is not open: its connection is not, or it alone is not
abbrev pub not_open : Bool → Why
not_open connection = if connection then SessionNotOpen else ConnectionNotOpen

-- why a connection cannot make a call
abbrev pub connection_why : Life → ℕ → Option Why
connection_why life c = unless (is_open_connection (connection_of life.connections c)) ConnectionNotOpen

-- why a session cannot make a call
abbrev pub session_why : Life → SessionId → Option Why
session_why life s = unless (is_some (mode_of life s)) (not_open (is_open_connection (connection_of life.connections s.connection)))

-- why it cannot make a call that is for transacted sessions
abbrev pub transacted_why : Life → SessionId → Option Why
transacted_why life s = first_why (session_why life s) (unless (is_transacted (mode_of life s)) NotTransacted)

-- or one that is for the others
abbrev pub untransacted_why : Life → SessionId → Option Why
untransacted_why life s = first_why (session_why life s) (unless (is_untransacted (mode_of life s)) Transacted)

-- Consumers

-- why a consumer of that number cannot be made
abbrev pub begin_why : Life → List Consumer → SessionId → ℕ → Option Why
begin_why life consumers s c = first_why (session_why life s) (unless (not (is_some (consumer_of consumers s c))) NumberUsed)

-- why the session's consumer cannot be used
abbrev pub use_why : Life → List Consumer → SessionId → ℕ → Option Why
use_why life consumers s c = first_why (session_why life s) (unless (is_active (consumer_of consumers s c)) ConsumerNotOpen)

-- why it cannot be closed: in an open session it was never made, or is busy; else the session was never opened
abbrev pub close_why : Life → List Consumer → SessionId → ℕ → Option Why
close_why life consumers s c =
    if is_some (mode_of life s)
    then first_why (unless (is_some (consumer_of consumers s c)) ConsumerNotOpen) (unless (not (is_busy (consumer_of consumers s c))) Busy)
    else unless (is_some (session_of life.sessions s)) SessionNotOpen

-- Subscriptions that have names, of which that is held: whether no consumer is active, and no row out

-- why an unshared durable subscription cannot be had
abbrev pub resume_why : Option Definition → Bool → Bool → Definition → Option Why
resume_why held idle home d = first_why (unless (is_same_kind held d) OtherKind) (first_why (unless idle ActiveConsumer) (unless (is_same held d || home) RowOut))

-- why a shared durable one cannot
abbrev pub join_why : Option Definition → Bool → Bool → Definition → Option Why
join_why held idle home d = first_why (unless (is_same_kind held d) OtherKind) (first_why (unless (is_same held d || idle) ActiveConsumer) (unless (is_same held d || home) RowOut))

-- why a shared one that is not durable cannot
abbrev pub share_why : Option Definition → Bool → Bool → Definition → Option Why
share_why held idle home d = unless (not (is_some held) || is_same held d) OtherDefinition

-- that is the cause where the destination is a topic, and the selector reads
abbrev pub subscription_why : Destination → Option (List ℕ) → Option Why → Option Why
subscription_why destination selector why = if is_of_topic destination && not (is_some (selector_refusal selector)) then why else None

-- why a durable subscription, where there is one, cannot be deleted
abbrev pub delete_why : Option Definition → Bool → Bool → Option Why
delete_why None idle home = None
delete_why (Some d) idle home = first_why (unless idle ActiveConsumer) (unless home RowOut)

-- Calls

-- why a request is refused so, by the connections and sessions, the consumers, and what is held of the key that it names
unfoldable pub request_why : Life → List Consumer → Holding → Who → Request → Option Why
request_why life consumers holding (Connection c) (Open client) = unless (not (is_some (connection_of life.connections c))) NumberUsed
request_why life consumers holding (Connection c) Start = connection_why life c
request_why life consumers holding (Connection c) Stop = connection_why life c
request_why life consumers holding (Connection c) CloseConnection = unless (is_some (connection_of life.connections c)) ConnectionNotOpen
request_why life consumers holding (Session s) (CreateSession mode) = first_why (connection_why life s.connection) (unless (not (is_some (session_of life.sessions s))) NumberUsed)
request_why life consumers holding (Session s) CloseSession = unless (may_close_session life s) SessionNotOpen
request_why life consumers holding (Session s) (CreateConsumer c destination selector no_local) = begin_why life consumers s c
request_why life consumers holding (Session s) (CreateDurable c destination name selector no_local) =
    first_why (begin_why life consumers s c) (first_why (unless (is_some (client_of life s.connection)) NoClient) (subscription_why destination selector (resume_why holding.definition (is_idle holding) (is_home holding) (asked destination selector no_local false))))
request_why life consumers holding (Session s) (CreateShared c destination name selector) =
    first_why (begin_why life consumers s c) (subscription_why destination selector (share_why holding.definition (is_idle holding) (is_home holding) (asked destination selector false true)))
request_why life consumers holding (Session s) (CreateSharedDurable c destination name selector) =
    first_why (begin_why life consumers s c) (subscription_why destination selector (join_why holding.definition (is_idle holding) (is_home holding) (asked destination selector false true)))
request_why life consumers holding (Session s) (Unsubscribe name) = first_why (session_why life s) (delete_why holding.definition (is_idle holding) (is_home holding))
request_why life consumers holding (Session s) (CloseConsumer c) = close_why life consumers s c
request_why life consumers holding (Session s) (Receive c now) = first_why (use_why life consumers s c) (unless (not (is_listening (consumer_of consumers s c))) Listening)
request_why life consumers holding (Session s) Acknowledge = session_why life s
request_why life consumers holding (Session s) Recover = untransacted_why life s
request_why life consumers holding (Session s) Rollback = transacted_why life s
request_why life consumers holding (Session s) (Missed c) = use_why life consumers s c
request_why life consumers holding (Session s) (SetListener c on) = first_why (use_why life consumers s c) (unless (not (is_busy (consumer_of consumers s c))) Busy)
request_why life consumers holding (Session s) (Take c now) = first_why (use_why life consumers s c) (first_why (unless (is_listening (consumer_of consumers s c)) NotListening) (unless (not (is_busy (consumer_of consumers s c))) Busy))
request_why life consumers holding (Session s) (DoneWith c ok) = first_why (use_why life consumers s c) (unless (is_busy (consumer_of consumers s c)) NotBusy)
request_why life consumers holding _ _ = Some OtherCaller

-- why a publication is refused so
abbrev pub publish_why : State → Who → List Content → Option Why
publish_why state (Connection c) messages = Some OtherCaller
publish_why state (Session s) messages = first_why (untransacted_why state.life s) (unless (is_stamped state.opening s messages) ForeignStamp)

-- why a commit is
abbrev pub commit_why : State → Who → List Content → Option Why
commit_why state (Connection c) messages = Some OtherCaller
commit_why state (Session s) messages = first_why (transacted_why state.life s) (unless (is_stamped state.opening s messages) ForeignStamp)

-- why a call is refused so; none where it is not
abbrev pub why : State → Who → Call → Option Why
why state who (Ask request) = request_why state.life state.consumers (held state who request) who request
why state who (Publish messages) = publish_why state who messages
why state who (Commit messages) = commit_why state who messages

-- What a cause explains

-- the refusals that have causes
abbrev pub explained : Option Refusal → Option Refusal
explained (Some refusals.IllegalState) = Some refusals.IllegalState
explained (Some refusals.SubscriptionInUse) = Some refusals.SubscriptionInUse
explained (Some r) = None
explained None = None

-- the refusal of a reply
abbrev pub refusal_in : Result Answer Refusal → Option Refusal
refusal_in (Ok a) = None
refusal_in (Err r) = Some r

-- a call that is refused as one that has causes has one of that refusal, and no other call has one
abbrev pub CausesExplain : Type 0
CausesExplain = (state : State) (who : Who) (call : Call) → option_map refusal_of (why state who call) ≡ explained (refusal_in (reply state who call))
