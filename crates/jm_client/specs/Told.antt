-- What a client is told of a call that is made through the lock: the state that it met does not show, but that the provider
-- reaches it.
use Rattle.std.specs.Prelude.{◌≡◌, ◌⊎◌, ℕ, Bool, true, false, List, Option, Some, None, Result, Ok, Err, MatchBool, count_by, length}
use Rattle.jm_base.specs.declared.refusal.Refusal.{Refusal}
use Rattle.jm_base.specs.declared.refusal.Refusal.TheVariants.{Exhausted, IllegalState, SubscriptionInUse}
use Rattle.jm_dest.specs.declared.session.SessionId.{SessionId}
use Rattle.jm_dest.specs.Names.{is_name}
use Rattle.jm_machine.specs.declared.answer.Answer.{Answer}
use Rattle.jm_machine.specs.declared.answer.Answer.TheVariants.{Done, Delivered, Nothing, Missed as MissedSoFar}
use Rattle.jm_machine.specs.declared.answer.Delivery.{Delivery}
use Rattle.jm_machine.specs.declared.call.Who.{Who}
use Rattle.jm_machine.specs.declared.call.Who.TheVariants.{Session}
use Rattle.jm_machine.specs.declared.call.Call.{Call}
use Rattle.jm_machine.specs.declared.call.Call.TheVariants.{Ask}
use Rattle.jm_machine.specs.declared.call.Request.{Request}
use Rattle.jm_machine.specs.declared.call.Request.TheVariants.{Receive, Missed, Take}
use Rattle.jm_client.specs.declared.overview.Overview.{Overview}
use Rattle.jm_client.specs.declared.shared.Way.{Way}
use Rattle.jm_client.specs.declared.shared.Way.TheVariants as ways
use Rattle.jm_error.specs.Refused.{Refused, bare}
use Rattle.jm_plans.specs.Kept.{IsNumberOfMessages}
use Rattle.jm_plans.specs.Provider.{Provider, state_of}
use Rattle.jm_stations.specs.Backlogs as backlogs
use Rattle.jm_machine.specs.Entries.{is_not_made}
use Rattle.jm_machine.specs.Isolation.{Reached}
use Rattle.jm_machine.specs.Machine.{State, reply}
use Rattle.jm_why.specs.declared.cause.Why.{Why}
use Rattle.jm_why.specs.Why.{why}

-- the refusals behind which a cause stands
abbrev pub has_cause : Refusal → Bool
has_cause IllegalState = true
has_cause SubscriptionInUse = true
has_cause r = false

-- the cause that is told with a refusal is that one; or none is told of a subscription that is in use, since memory was wanted
-- to find it
abbrev pub IsCause : Option Why → Refused → Type 0
IsCause cause r = (r.cause ≡ cause) ⊎ ((r.refusal ≡ SubscriptionInUse) × (r.cause ≡ None))

-- a call that meets that state is told so: its reply is the machine's, and a refusal comes with the machine's cause; or the
-- call counts as not made, since memory was wanted or the keeper failed, and no cause is told
abbrev pub IsToldIn : State → Who → Call → Result Answer Refused → Type 0
IsToldIn state who call (Ok a) = Ok a ≡ reply state who call
IsToldIn state who call (Err r) = MatchBool (is_not_made (Err r.refusal)) (r.cause ≡ None) ((Err r.refusal ≡ reply state who call) × IsCause (why state who call) r)

-- a call is told so in a state that the provider reaches
pub record Told (who : Who) (call : Call) (r : Result Answer Refused) : Type 0 where
  pub state : State
  pub reached : Reached state
  pub fits : IsToldIn state who call r

-- a step that is refused so leaves that state: the refusal is the machine's, or the step counts as not made
abbrev pub IsRefusedIn : State → Who → Call → Refusal → Type 0
IsRefusedIn state who call r = MatchBool (is_not_made (Err r)) (Unit {0}) (Err r ≡ reply state who call)

-- the reply that a call has in which nothing is handed out
abbrev pub done_reply : Result (Unit {0}) Refused → Result Answer Refused
done_reply (Ok u) = Ok Done
done_reply (Err r) = Err r

-- the request for the next message of a consumer at a moment: a receive, or a take for its listener
abbrev pub asked : Way → ℕ → ℕ → Request
asked ways.Receive c now = Receive c now
asked ways.Take c now = Take c now

-- the answer to such a request that hands out that message, or none
abbrev pub message_answer : Option Delivery → Answer
message_answer None = Nothing
message_answer (Some d) = Delivered d

-- the reply to it
abbrev pub message_reply : Result (Option Delivery) Refused → Result Answer Refused
message_reply (Ok d) = Ok (message_answer d)
message_reply (Err r) = Err r

-- an answer that such a request has
abbrev pub is_receipt : Answer → Bool
is_receipt Nothing = true
is_receipt (Delivered d) = true
is_receipt a = false

-- an answer that tells how many publications were missed
abbrev pub is_missed : Answer → Bool
is_missed (MissedSoFar n) = true
is_missed a = false

-- the reply that tells how many publications were missed
abbrev pub missed_reply : Result ℕ Refused → Result Answer Refused
missed_reply (Ok n) = Ok (MissedSoFar n)
missed_reply (Err r) = Err r

-- the answer to the request hands out nothing
abbrev pub is_plain : Request → Bool
is_plain (Receive c now) = false
is_plain (Missed c) = false
is_plain (Take c now) = false
is_plain request = true

-- the client is told so of the request
abbrev pub Answers : Who → Request → Result (Unit {0}) Refused → Type 0
Answers who request result = Told who (Ask request) (done_reply result)

-- the client is told so of a request for the next message of the session's consumer, at some moment
abbrev pub Asks : Way → SessionId → ℕ → Result (Option Delivery) Refused → Type 0
Asks way s c result = (now : ℕ) × Told (Session s) (Ask (asked way c now)) (message_reply result)

-- of a receive
abbrev pub Receives : SessionId → ℕ → Result (Option Delivery) Refused → Type 0
Receives s c result = Asks ways.Receive s c result

-- of a take for its listener
abbrev pub Takes : SessionId → ℕ → Result (Option Delivery) Refused → Type 0
Takes s c result = Asks ways.Take s c result

-- no number is left; or the request that names a number is refused so with some
abbrev pub RefusesNew : (ℕ → Who) → (ℕ → Request) → Refused → Type 0
RefusesNew who request r = (r ≡ bare Exhausted) ⊎ ((n : ℕ) × Told (who n) (Ask (request n)) (Err r))

-- no text is handed in, or one that is a name
abbrev pub is_named : Option (List ℕ) → Bool
is_named None = true
is_named (Some text) = is_name text

-- so many connections and sessions are open, so many consumers are active, there are so many subscriptions, and subscriptions and
-- queues hold so many messages, in a core whose state the provider reaches
pub record IsOverview (o : Overview) : Type 0 where
  pub core : Provider
  pub reached : Reached (state_of core)
  pub connections : o.connections ≡ count_by (λ x. x.is_open) (state_of core).life.connections
  pub sessions : o.sessions ≡ count_by (λ x. x.is_open) (state_of core).life.sessions
  pub consumers : o.consumers ≡ count_by (λ x. x.is_active) (state_of core).consumers
  pub subscriptions : o.subscriptions ≡ length (state_of core).stations
  pub held : IsNumberOfMessages o.held (state_of core).stations
  pub queued : backlogs.IsNumberOfMessages o.queued core.queues.list
