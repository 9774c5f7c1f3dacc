-- Worked runs with subscriptions that have names, computed on the definitions.
use Rattle.std.specs.Prelude.{◌≡◌, ℕ, true, false, List, [], ◌∷◌, ◌++◌, Some, None, Result, Ok, Err, refl}
use Rattle.jm_base.specs.declared.mode.Mode.TheVariants.{Auto, Client, Transacted}
use Rattle.jm_base.specs.declared.refusal.Refusal.{Refusal}
use Rattle.jm_base.specs.declared.refusal.Refusal.TheVariants.{IllegalState, InvalidDestination, InvalidClientId, SubscriptionInUse}
use Rattle.jm_dest.specs.declared.session.SessionId.{SessionId}
use Rattle.jm_dest.specs.declared.destination.Destination.TheVariants.{Queue, Topic}
use Rattle.jm_dest.specs.declared.key.Key.TheVariants.{Durable}
use Rattle.jm_machine.specs.declared.call.Who.TheVariants.{Connection, Session}
use Rattle.jm_machine.specs.declared.call.Request.{Request}
use Rattle.jm_machine.specs.declared.call.Request.TheVariants.{Open, Start, CloseConnection, CreateSession, CloseSession, CreateConsumer, CreateDurable, CreateShared, CreateSharedDurable, Unsubscribe, CloseConsumer, Receive, Acknowledge, Rollback}
use Rattle.jm_machine.specs.declared.call.ClientCall.{ClientCall}
use Rattle.jm_machine.specs.declared.call.ClientCall.TheVariants.{Ask, Send}
use Rattle.jm_machine.specs.declared.answer.Answer.{Answer}
use Rattle.jm_machine.specs.declared.answer.Answer.TheVariants.{Sent}
use Rattle.jm_machine.specs.Life.{life_after, own_life}
use Rattle.jm_machine.specs.Rows.{is_next, left_of}
use Rattle.jm_selector.specs.Selectors.{selector_refusal, selects}
use Rattle.jm_machine.specs.Machine.{new_core, defined, accepts, published, refusal, publish_refusal, after, answer, reply, step}
use Rattle.jm_machine.specs.Client.{reply_to, progress_to, replies_to}
use Rattle.jm_machine.specs.Entries.{entries_of, life_after_entry, committed}
use Rattle.jm_machine.specs.Lone.{lone_of, lone_did, is_answered, feed}
use Rattle.jm_machine.specs.Isolation.{is_unshared, keeps_numbers, alone}
use Rattle.jm_machine.specs.Examples.{new_run, publisher, topic, other_topic, text, send, send_other, receive, ok, none, got, got_of, asks}

-- the client k
abbrev pub client : List ℕ
client = 107 ∷ []

-- the name n
abbrev pub name : List ℕ
name = 110 ∷ []

-- session 1.2
abbrev pub second_receiver : SessionId
second_receiver = record { connection = 1; number = 2 }

-- session 3.1
abbrev pub third : SessionId
third = record { connection = 3; number = 1 }

-- a session asks
abbrev pub by : SessionId → Request → ClientCall
by s request = Ask (Session s) request

-- an unshared durable subscription of the name n to the topic t
abbrev pub durable : ℕ → Request
durable c = CreateDurable c (Topic topic) name None false

-- the same to the topic u
abbrev pub durable_other : ℕ → Request
durable_other c = CreateDurable c (Topic other_topic) name None false

-- connection 1 has the client k, and is started; session 1.1 is transacted, session 2.1 sends
abbrev pub with_client : List ClientCall
with_client = Ask (Connection 1) (Open (Some client)) ∷ Ask (Connection 2) (Open None) ∷ asks (CreateSession Transacted) ∷ by publisher (CreateSession Auto) ∷ Ask (Connection 1) Start ∷ []

-- the replies to these calls: each is done
abbrev pub five : List (Result Answer Refusal)
five = ok ∷ ok ∷ ok ∷ ok ∷ ok ∷ []

-- a durable subscription outlives its consumer; what was out to the session stays out until it rolls back, and comes to
-- the next consumer then, counted
abbrev pub durable_resumes_calls : List ClientCall
durable_resumes_calls =
    with_client ++ asks (durable 2) ∷ send 1000 (text 97) ∷ receive 2 1000 ∷ asks (CloseConsumer 2) ∷ by second_receiver (CreateSession Auto) ∷ by second_receiver (durable 1) ∷ by second_receiver (Receive 1 1000)
    ∷ asks Rollback ∷ by second_receiver (Receive 1 1000) ∷ []

-- the replies to these calls
abbrev pub durable_resumes_replies : List (Result Answer Refusal)
durable_resumes_replies = five ++ ok ∷ Ok (Sent 1) ∷ got (text 97) 1 1000 1 ∷ ok ∷ ok ∷ ok ∷ none ∷ ok ∷ got (text 97) 1 1000 2 ∷ []

-- they are the machine's replies
pub durable_resumes : replies_to new_run durable_resumes_calls ≡ durable_resumes_replies
unfolding life_after is_next left_of selector_refusal selects defined accepts published refusal publish_refusal after answer reply step reply_to progress_to
durable_resumes = refl

-- the key is that of an unshared topic subscription
pub durable_unshared : is_unshared (Durable (Some client) name) (new_core 1 100000) (entries_of 1 durable_resumes_calls durable_resumes_replies) ≡ true
durable_unshared = refl

-- and its consumers' numbers name nothing else
pub durable_numbers : keeps_numbers (Durable (Some client) name) (new_core 1 100000) (entries_of 1 durable_resumes_calls durable_resumes_replies) ≡ true
durable_numbers = refl

-- what the subscription answers alone, to both of its sessions
pub durable_alone : alone (Durable (Some client) name) (new_core 1 100000) (entries_of 1 durable_resumes_calls durable_resumes_replies)
    ≡ (5, ok) ∷ (7, got (text 97) 1 1000 1) ∷ (8, ok) ∷ (10, ok) ∷ (11, none) ∷ (13, got (text 97) 1 1000 2) ∷ []
unfolding life_after own_life is_next left_of selector_refusal selects defined accepts published refusal publish_refusal after answer reply step reply_to progress_to life_after_entry committed lone_of lone_did is_answered feed
durable_alone = refl

-- one consumer at a time; another definition deletes what is held, but not while a row is out; so does Unsubscribe
pub durable_replaced : replies_to new_run
    (with_client ++ asks (durable 2) ∷ by second_receiver (CreateSession Client) ∷ by second_receiver (durable 1) ∷ asks (CloseConsumer 2) ∷ send 1000 (text 97) ∷ by second_receiver (durable_other 2) ∷ by second_receiver (Receive 2 1000)
    ∷ send_other 1000 (text 98) ∷ by second_receiver (Receive 2 1000) ∷ by second_receiver (CloseConsumer 2) ∷ by second_receiver (durable 3) ∷ by second_receiver (Unsubscribe name) ∷ by second_receiver Acknowledge
    ∷ by second_receiver (Unsubscribe name) ∷ by second_receiver (Unsubscribe name) ∷ [])
    ≡ five ++ ok ∷ ok ∷ Err SubscriptionInUse ∷ ok ∷ Ok (Sent 1) ∷ ok ∷ none ∷ Ok (Sent 2) ∷ got_of (Topic other_topic) (text 98) 2 1000 1 ∷ ok ∷ Err SubscriptionInUse ∷ Err SubscriptionInUse ∷ ok ∷ ok ∷ Err InvalidDestination ∷ []
unfolding life_after is_next left_of selector_refusal selects defined accepts published refusal publish_refusal after answer reply step reply_to progress_to
durable_replaced = refl

-- what a durable subscription asks not to be local goes by the client, also on another connection of it
pub no_local_by_client : replies_to new_run
    (Ask (Connection 1) (Open (Some client)) ∷ Ask (Connection 2) (Open None) ∷ asks (CreateSession Auto) ∷ by publisher (CreateSession Auto) ∷ asks (CreateDurable 1 (Topic topic) name None true) ∷ Ask (Connection 1) CloseConnection
    ∷ Ask (Connection 3) (Open (Some client)) ∷ Ask (Connection 4) (Open (Some client)) ∷ by third (CreateSession Auto) ∷ Send third (text 97) (Topic topic) 1000 ∷ send 1000 (text 98)
    ∷ by third (CreateDurable 1 (Topic topic) name None true) ∷ Ask (Connection 3) Start ∷ by third (Receive 1 1000) ∷ by third (Receive 1 1000) ∷ [])
    ≡ five ++ ok ∷ ok ∷ Err InvalidClientId ∷ ok ∷ Ok (Sent 1) ∷ Ok (Sent 1) ∷ ok ∷ ok ∷ got (text 98) 1 1000 1 ∷ none ∷ []
unfolding life_after is_next left_of selector_refusal selects defined accepts published refusal publish_refusal after answer reply step reply_to progress_to
no_local_by_client = refl

-- a shared subscription of the name n
abbrev pub shared : ℕ → Request
shared c = CreateShared c (Topic topic) name None

-- a shared subscription's consumers share its messages, and beside it another gets all; it ends with its last consumer
pub shared_subscription : replies_to new_run
    (Ask (Connection 1) (Open None) ∷ Ask (Connection 2) (Open None) ∷ Ask (Connection 3) (Open None) ∷ asks (CreateSession Auto) ∷ by publisher (CreateSession Auto) ∷ by third (CreateSession Auto)
    ∷ Ask (Connection 1) Start ∷ Ask (Connection 2) Start ∷ Ask (Connection 3) Start ∷ asks (shared 1) ∷ by publisher (shared 1) ∷ by third (CreateConsumer 1 (Topic topic) None false)
    ∷ send 1000 (text 97) ∷ send 1000 (text 98) ∷ receive 1 1000 ∷ by publisher (Receive 1 1000) ∷ by third (Receive 1 1000) ∷ by third (Receive 1 1000)
    ∷ by third (CreateShared 2 (Topic other_topic) name None) ∷ asks (CloseConsumer 1) ∷ by publisher (CloseConsumer 1) ∷ send 1000 (text 99) ∷ asks (shared 2) ∷ receive 2 1000 ∷ [])
    ≡ five ++ ok ∷ ok ∷ ok ∷ ok ∷ ok ∷ ok ∷ ok ∷ Ok (Sent 1) ∷ Ok (Sent 2) ∷ got (text 97) 1 1000 1 ∷ got (text 98) 2 1000 1 ∷ got (text 97) 1 1000 1 ∷ got (text 98) 2 1000 1
    ∷ Err SubscriptionInUse ∷ ok ∷ ok ∷ Ok (Sent 3) ∷ ok ∷ none ∷ []
unfolding life_after is_next left_of selector_refusal selects defined accepts published refusal publish_refusal after answer reply step reply_to progress_to
shared_subscription = refl

-- a durable subscription wants a client, and each one a topic; a durable name is shared or unshared; a shared one that is
-- durable stays without consumers, also without a client
pub named_refusals : replies_to new_run
    (with_client ++ by publisher (durable 1) ∷ asks (CreateDurable 1 (Queue topic) name None false) ∷ asks (CreateShared 1 (Queue topic) name None) ∷ asks (CreateSharedDurable 1 (Queue topic) name None)
    ∷ asks (durable 1) ∷ asks (CreateDurable 1 (Queue topic) name None false) ∷ asks (CreateSharedDurable 2 (Topic topic) name None) ∷ asks (shared 2)
    ∷ by publisher (CreateSharedDurable 1 (Topic topic) name None) ∷ by publisher (CreateSharedDurable 2 (Topic topic) name None) ∷ by publisher (Unsubscribe name) ∷ by publisher CloseSession
    ∷ by (record { connection = 2; number = 2 }) (CreateSession Auto) ∷ by (record { connection = 2; number = 2 }) (Unsubscribe name) ∷ [])
    ≡ five ++ Err IllegalState ∷ Err InvalidDestination ∷ Err InvalidDestination ∷ Err InvalidDestination ∷ ok ∷ Err IllegalState ∷ Err SubscriptionInUse ∷ ok ∷ ok ∷ ok ∷ Err SubscriptionInUse ∷ ok ∷ ok ∷ ok ∷ []
unfolding life_after is_next left_of selector_refusal selects defined accepts published refusal publish_refusal after answer reply step reply_to progress_to
named_refusals = refl
