-- Worked runs, computed on the definitions.
use Rattle.std.specs.Prelude.{◌≡◌, ℕ, false, List, [], ◌∷◌, ◌++◌, map, None, Result, Ok, Err, refl}
use Rattle.jm_base.specs.declared.mode.Mode.{Mode}
use Rattle.jm_base.specs.declared.mode.Mode.TheVariants.{Auto, Client, Dups, Transacted}
use Rattle.jm_base.specs.declared.refusal.Refusal.{Refusal}
use Rattle.jm_base.specs.declared.refusal.Refusal.TheVariants.{IllegalState, OutOfRange}
use Rattle.jm_dest.specs.declared.session.SessionId.{SessionId}
use Rattle.jm_dest.specs.declared.destination.Destination.{Destination}
use Rattle.jm_dest.specs.declared.destination.Destination.TheVariants.{Queue, Topic}
use Rattle.jm_dest.specs.declared.key.Key.TheVariants.{Own}
use Rattle.jm_header.specs.declared.body.Body.TheVariants.{Text}
use Rattle.jm_header.specs.declared.content.Content.{Content}
use Rattle.jm_header.specs.declared.content.Settings.{Settings}
use Rattle.jm_header.specs.Headers.{defaults, message_of}
use Rattle.jm_machine.specs.declared.call.Who.TheVariants.{Connection, Session}
use Rattle.jm_machine.specs.declared.call.Request.{Request}
use Rattle.jm_machine.specs.declared.call.Request.TheVariants.{Open, Start, Stop, CloseConnection, CreateSession, CloseSession, CreateConsumer, CloseConsumer, Receive, Acknowledge, Recover, Rollback, Missed}
use Rattle.jm_machine.specs.declared.call.Call.TheVariants.{Publish, Commit}
use Rattle.jm_machine.specs.declared.call.ClientCall.{ClientCall}
use Rattle.jm_machine.specs.declared.call.ClientCall.TheVariants.{Ask, Send, CommitSession}
use Rattle.jm_machine.specs.declared.answer.Answer.{Answer}
use Rattle.jm_machine.specs.declared.answer.Answer.TheVariants.{Done, Sent, Delivered, Nothing, Missed as MissedSoFar}
use Rattle.jm_machine.specs.declared.entry.Entry.TheVariants.{Sent as SentEntry, Committed}
use Rattle.jm_machine.specs.declared.entry.Event.{Event}
use Rattle.jm_machine.specs.Life.{life_after, own_life}
use Rattle.jm_machine.specs.Rows.{protected, is_next, left_of}
use Rattle.jm_selector.specs.Selectors.{selector_refusal, selects}
use Rattle.jm_machine.specs.Machine.{State, new_core, defined, accepts, published, refusal, publish_refusal, commit_refusal, after, after_commit, answer, reply, step}
use Rattle.jm_machine.specs.Client.{Progress, begun, reply_to, progress_to, replies_to, progress_after}
use Rattle.jm_machine.specs.Entries.{entries_of, expand, life_after_entry, committed}
use Rattle.jm_machine.specs.Lone.{lone_of, lone_did, is_answered, feed}
use Rattle.jm_machine.specs.Isolation.{answered, alone, feed_of, IsLegal, in_order}

-- a run of a new core in opening 1, in which subscriptions may hold 100,000 rows
abbrev pub new_run : Progress
new_run = begun (new_core 1 100000)

-- session 1.1, which receives
abbrev pub receiver : SessionId
receiver = record { connection = 1; number = 1 }

-- session 2.1, which sends
abbrev pub publisher : SessionId
publisher = record { connection = 2; number = 1 }

-- the topic t
abbrev pub topic : List ℕ
topic = 116 ∷ []

-- a draft of a text of one letter
abbrev pub text : ℕ → Settings
text letter = record defaults { body = Text (letter ∷ []) }

-- the publisher sends a draft to the topic
abbrev pub send : ℕ → Settings → ClientCall
send now draft = Send publisher draft (Topic topic) now

-- a consumer of session 1.1 receives
abbrev pub receive : ℕ → ℕ → ClientCall
receive c now = Ask (Session receiver) (Receive c now)

-- the reply to a call that is done
abbrev pub ok : Result Answer Refusal
ok = Ok Done

-- the reply to a receive that gets nothing
abbrev pub none : Result Answer Refusal
none = Ok Nothing

-- the reply to a receive that gets the message of that draft, destination, number and moment, with that count
abbrev pub got_of : Destination → Settings → ℕ → ℕ → ℕ → Result Answer Refusal
got_of destination draft n now count = Ok (Delivered (record {
  message = protected (message_of draft destination (record { opening = 1; session = publisher }) n now);
  count = count;
}))

-- the same of the topic t
abbrev pub got : Settings → ℕ → ℕ → ℕ → Result Answer Refusal
got = got_of (Topic topic)

-- both connections and sessions, and consumer 1 of the topic
abbrev pub opened : List ClientCall
opened =
    Ask (Connection 1) (Open None) ∷ Ask (Connection 2) (Open None) ∷ Ask (Session receiver) (CreateSession Auto) ∷ Ask (Session publisher) (CreateSession Auto)
    ∷ Ask (Session receiver) (CreateConsumer 1 (Topic topic) None false) ∷ []

-- the same, and connection 1 starts
abbrev pub started : List ClientCall
started = opened ++ Ask (Connection 1) Start ∷ []

-- the replies to the five calls that open: each is done
abbrev pub five : List (Result Answer Refusal)
five = ok ∷ ok ∷ ok ∷ ok ∷ ok ∷ []

-- the replies to these and to the start: each is done
abbrev pub six : List (Result Answer Refusal)
six = five ++ ok ∷ []

-- one message from a publisher to a subscriber
abbrev pub first_message_calls : List ClientCall
first_message_calls = started ++ send 1000 (text 97) ∷ receive 1 1000 ∷ receive 1 1000 ∷ []

-- the replies to these calls
abbrev pub first_message_replies : List (Result Answer Refusal)
first_message_replies = six ++ Ok (Sent 1) ∷ got (text 97) 1 1000 1 ∷ none ∷ []

-- they are the machine's replies
pub first_message : replies_to new_run first_message_calls ≡ first_message_replies
unfolding life_after is_next left_of selector_refusal selects defined accepts published refusal publish_refusal after answer reply step reply_to progress_to
first_message = refl

-- what the consumer's subscription answers alone: calls 5, 8 and 9
pub first_message_alone : alone (Own receiver 1) (new_core 1 100000) (entries_of 1 first_message_calls first_message_replies)
    ≡ (4, ok) ∷ (7, got (text 97) 1 1000 1) ∷ (8, none) ∷ []
unfolding life_after own_life is_next left_of selector_refusal selects defined accepts published refusal publish_refusal after answer reply step reply_to progress_to life_after_entry committed lone_of lone_did is_answered feed
first_message_alone = refl

-- a stopped connection delivers nothing
pub stopped_connection : replies_to new_run (opened ++ send 1000 (text 97) ∷ receive 1 1000 ∷ Ask (Connection 1) Start ∷ receive 1 1000 ∷ send 1000 (text 98) ∷ Ask (Connection 1) Stop ∷ receive 1 1000 ∷ Ask (Connection 1) Start ∷ receive 1 1000 ∷ [])
    ≡ five ++ Ok (Sent 1) ∷ none ∷ ok ∷ got (text 97) 1 1000 1 ∷ Ok (Sent 2) ∷ ok ∷ none ∷ ok ∷ got (text 98) 2 1000 1 ∷ []
unfolding life_after is_next left_of selector_refusal selects defined accepts published refusal publish_refusal after answer reply step reply_to progress_to
stopped_connection = refl

-- a draft of another priority
abbrev pub of_priority : ℕ → ℕ → Settings
of_priority priority letter = record (text letter) { priority = priority }

-- by priority, then by place
pub priority_order : replies_to new_run (started ++ send 1000 (of_priority 4 97) ∷ send 1000 (of_priority 9 98) ∷ send 1000 (of_priority 4 99) ∷ send 1000 (of_priority 0 100)
    ∷ receive 1 1000 ∷ receive 1 1000 ∷ receive 1 1000 ∷ receive 1 1000 ∷ [])
    ≡ six ++ Ok (Sent 1) ∷ Ok (Sent 2) ∷ Ok (Sent 3) ∷ Ok (Sent 4)
    ∷ got (of_priority 9 98) 2 1000 1 ∷ got (of_priority 4 97) 1 1000 1 ∷ got (of_priority 4 99) 3 1000 1 ∷ got (of_priority 0 100) 4 1000 1 ∷ []
unfolding life_after is_next left_of selector_refusal selects defined accepts published refusal publish_refusal after answer reply step reply_to progress_to
priority_order = refl

-- a draft with a time to live
abbrev pub living : ℕ → ℕ → Settings
living time letter = record (text letter) { time_to_live = time }

-- a message is given before its expiration; from it on it is dropped, for good
pub expiry : replies_to new_run (started ++ send 1000 (living 500 97) ∷ receive 1 1499 ∷ send 1000 (living 500 97) ∷ receive 1 1500 ∷ receive 1 1400 ∷ [])
    ≡ six ++ Ok (Sent 1) ∷ got (living 500 97) 1 1000 1 ∷ Ok (Sent 2) ∷ none ∷ none ∷ []
unfolding life_after is_next left_of selector_refusal selects defined accepts published refusal publish_refusal after answer reply step reply_to progress_to
expiry = refl

-- with no time to live it is given at any moment; past the greatest moment there is no expiration, and
-- the number of the send stays free
pub greatest_moment : replies_to new_run (started ++ send 1000 (text 97) ∷ receive 1 9223372036854775807 ∷ send 9223372036854775807 (living 1 97) ∷ send 1000 (text 98) ∷ [])
    ≡ six ++ Ok (Sent 1) ∷ got (text 97) 1 1000 1 ∷ Err OutOfRange ∷ Ok (Sent 2) ∷ []
unfolding life_after is_next left_of selector_refusal selects defined accepts published refusal publish_refusal after answer reply step reply_to progress_to
greatest_moment = refl

-- a receive drops expired messages of its own subscription alone, at its own moment alone
pub each_sweeps_its_own : replies_to new_run (started ++ Ask (Session receiver) (CreateConsumer 2 (Topic topic) None false) ∷ send 1000 (living 500 97) ∷ receive 2 1500 ∷ receive 1 1400 ∷ [])
    ≡ six ++ ok ∷ Ok (Sent 1) ∷ none ∷ got (living 500 97) 1 1000 1 ∷ []
unfolding life_after is_next left_of selector_refusal selects defined accepts published refusal publish_refusal after answer reply step reply_to progress_to
each_sweeps_its_own = refl

-- a session and a connection are used once, and a session sends only while it is open
pub used_numbers : replies_to new_run (started ++ Ask (Connection 1) (Open None) ∷ Ask (Session receiver) (CreateSession Auto) ∷ Ask (Session receiver) (CreateConsumer 1 (Topic topic) None false)
    ∷ receive 2 1000 ∷ Ask (Connection 3) Start ∷ Ask (Connection 1) (Receive 1 1000) ∷ Send (record { connection = 3; number = 1 }) (text 97) (Topic topic) 1000 ∷ [])
    ≡ six ++ Err IllegalState ∷ Err IllegalState ∷ Err IllegalState ∷ Err IllegalState ∷ Err IllegalState ∷ Err IllegalState ∷ Err IllegalState ∷ []
unfolding life_after is_next left_of selector_refusal selects defined accepts published refusal publish_refusal after answer reply step reply_to progress_to
used_numbers = refl

-- the topic u
abbrev pub other_topic : List ℕ
other_topic = 117 ∷ []

-- the publisher sends a draft to that topic
abbrev pub send_other : ℕ → Settings → ClientCall
send_other now draft = Send publisher draft (Topic other_topic) now

-- each topic's consumers get its messages alone
pub second_topic : replies_to new_run (started ++ Ask (Session receiver) (CreateConsumer 2 (Topic other_topic) None false) ∷ send_other 1000 (text 97) ∷ send 1000 (text 98)
    ∷ receive 1 1000 ∷ receive 1 1000 ∷ receive 2 1000 ∷ receive 2 1000 ∷ [])
    ≡ six ++ ok ∷ Ok (Sent 1) ∷ Ok (Sent 2) ∷ got (text 98) 2 1000 1 ∷ none ∷ got_of (Topic other_topic) (text 97) 1 1000 1 ∷ none ∷ []
unfolding life_after is_next left_of selector_refusal selects defined accepts published refusal publish_refusal after answer reply step reply_to progress_to
second_topic = refl

-- a message to a queue of the topic's name comes to no topic's consumer, and takes a number and a place
abbrev pub queue_message_calls : List ClientCall
queue_message_calls = started ++ Send publisher (text 97) (Queue topic) 1000 ∷ receive 1 1000 ∷ send 1000 (text 98) ∷ receive 1 1000 ∷ []

-- the replies to these calls
pub queue_message : replies_to new_run queue_message_calls ≡ six ++ Ok (Sent 1) ∷ none ∷ Ok (Sent 2) ∷ got (text 98) 2 1000 1 ∷ []
unfolding life_after is_next left_of selector_refusal selects defined accepts published refusal publish_refusal after answer reply step reply_to progress_to
queue_message = refl

-- the place of the next publication
pub queue_message_place : (progress_after new_run queue_message_calls).state.next_place ≡ 3
unfolding life_after is_next left_of selector_refusal selects defined accepts published refusal publish_refusal after answer reply step reply_to progress_to
queue_message_place = refl

-- a run on the end of another, which left the message a in the subscription
abbrev pub second_run : Progress
second_run = begun (progress_after new_run (started ++ send 1000 (text 97) ∷ [])).state

-- its calls
abbrev pub second_run_calls : List ClientCall
second_run_calls = send 1000 (text 98) ∷ receive 1 1000 ∷ receive 1 1000 ∷ receive 1 1000 ∷ []

-- the replies to them: the numbers of sends count from 1 again
abbrev pub second_run_replies : List (Result Answer Refusal)
second_run_replies = Ok (Sent 1) ∷ got (text 97) 1 1000 1 ∷ got (text 98) 1 1000 1 ∷ none ∷ []

-- they are the machine's replies
pub second_list : replies_to second_run second_run_calls ≡ second_run_replies
unfolding life_after is_next left_of selector_refusal selects defined accepts published refusal publish_refusal after answer reply step reply_to progress_to
second_list = refl

-- the consumer's calls in the record of the second run: calls 2, 3 and 4
pub second_list_answered : answered (Own receiver 1) second_run.state (entries_of 1 second_run_calls second_run_replies)
    ≡ (1, got (text 97) 1 1000 1) ∷ (2, got (text 98) 1 1000 1) ∷ (3, none) ∷ []
unfolding life_after own_life is_next left_of selector_refusal selects defined accepts published refusal publish_refusal after answer reply step reply_to progress_to life_after_entry committed lone_of lone_did is_answered feed
second_list_answered = refl

-- what its subscription answers alone, from what the second run began with
pub second_list_alone : alone (Own receiver 1) second_run.state (entries_of 1 second_run_calls second_run_replies)
    ≡ (1, got (text 97) 1 1000 1) ∷ (2, got (text 98) 1 1000 1) ∷ (3, none) ∷ []
unfolding life_after own_life is_next left_of selector_refusal selects defined accepts published refusal publish_refusal after answer reply step reply_to progress_to life_after_entry committed lone_of lone_did is_answered feed
second_list_alone = refl

-- both connections and sessions, of which session 1.1 has that mode, consumer 1 of the topic, and connection 1 starts
abbrev pub started_in : Mode → List ClientCall
started_in mode =
    Ask (Connection 1) (Open None) ∷ Ask (Connection 2) (Open None) ∷ Ask (Session receiver) (CreateSession mode) ∷ Ask (Session publisher) (CreateSession Auto)
    ∷ Ask (Session receiver) (CreateConsumer 1 (Topic topic) None false) ∷ Ask (Connection 1) Start ∷ []

-- a session of the receiver's connection asks
abbrev pub asks : Request → ClientCall
asks request = Ask (Session receiver) request

-- what is not acknowledged comes again after a recovery, counted; what is acknowledged does not; and there is no
-- transaction to be committed
pub recover_and_acknowledge : replies_to new_run (started_in Client ++ send 1000 (text 97) ∷ send 1000 (text 98) ∷ receive 1 1000 ∷ receive 1 1000 ∷ asks Recover ∷ receive 1 1000 ∷ receive 1 1000 ∷ asks Acknowledge ∷ asks Recover ∷ receive 1 1000 ∷ CommitSession receiver ∷ [])
    ≡ six ++ Ok (Sent 1) ∷ Ok (Sent 2) ∷ got (text 97) 1 1000 1 ∷ got (text 98) 2 1000 1 ∷ ok ∷ got (text 97) 1 1000 2 ∷ got (text 98) 2 1000 2 ∷ ok ∷ ok ∷ none ∷ Err IllegalState ∷ []
unfolding life_after is_next left_of selector_refusal selects defined accepts published refusal publish_refusal commit_refusal after answer reply step reply_to progress_to
recover_and_acknowledge = refl

-- lazily acknowledged, a message does not come again
pub duplicates_settle : replies_to new_run (started_in Dups ++ send 1000 (text 97) ∷ receive 1 1000 ∷ asks Recover ∷ receive 1 1000 ∷ [])
    ≡ six ++ Ok (Sent 1) ∷ got (text 97) 1 1000 1 ∷ ok ∷ none ∷ []
unfolding life_after is_next left_of selector_refusal selects defined accepts published refusal publish_refusal after answer reply step reply_to progress_to
duplicates_settle = refl

-- where a subscription may hold two rows, it misses the third
pub limit_of_two : replies_to (begun (new_core 1 2)) (started ++ send 1000 (text 97) ∷ send 1000 (text 98) ∷ send 1000 (text 99) ∷ asks (Missed 1) ∷ receive 1 1000 ∷ receive 1 1000 ∷ receive 1 1000 ∷ [])
    ≡ six ++ Ok (Sent 1) ∷ Ok (Sent 2) ∷ Ok (Sent 3) ∷ Ok (MissedSoFar 1) ∷ got (text 97) 1 1000 1 ∷ got (text 98) 2 1000 1 ∷ none ∷ []
unfolding life_after is_next left_of selector_refusal selects defined accepts published refusal publish_refusal after answer reply step reply_to progress_to
limit_of_two = refl

-- a row that is expired and not yet dropped counts towards the limit
pub limit_of_one : replies_to (begun (new_core 1 1)) (started ++ send 1000 (living 10 97) ∷ send 2000 (text 98) ∷ asks (Missed 1) ∷ receive 1 2000 ∷ send 2000 (text 99) ∷ receive 1 2000 ∷ [])
    ≡ six ++ Ok (Sent 1) ∷ Ok (Sent 2) ∷ Ok (MissedSoFar 1) ∷ none ∷ Ok (Sent 3) ∷ got (text 99) 3 2000 1 ∷ []
unfolding life_after is_next left_of selector_refusal selects defined accepts published refusal publish_refusal after answer reply step reply_to progress_to
limit_of_one = refl

-- a closed consumer's subscription ends with what is out of it
pub closed_consumer_ends : replies_to new_run (started_in Client ++ send 1000 (text 97) ∷ receive 1 1000 ∷ asks (CloseConsumer 1) ∷ asks Recover ∷ asks (CreateConsumer 2 (Topic topic) None false) ∷ receive 2 1000 ∷ receive 1 1000 ∷ asks (CloseConsumer 1) ∷ [])
    ≡ six ++ Ok (Sent 1) ∷ got (text 97) 1 1000 1 ∷ ok ∷ ok ∷ ok ∷ none ∷ Err IllegalState ∷ ok ∷ []
unfolding life_after is_next left_of selector_refusal selects defined accepts published refusal publish_refusal after answer reply step reply_to progress_to
closed_consumer_ends = refl

-- what is closed may be closed again, and nothing else; numbers are not free again
pub closed_sessions : replies_to new_run (started ++ asks CloseSession ∷ asks CloseSession ∷ asks (CloseConsumer 7) ∷ receive 1 1000 ∷ asks Recover ∷ asks (CreateSession Auto)
    ∷ Ask (Connection 1) CloseConnection ∷ Ask (Connection 1) CloseConnection ∷ Ask (Connection 1) Start ∷ Ask (Connection 1) (Open None) ∷ Ask (Session (record { connection = 1; number = 9 })) CloseSession ∷ Ask (Connection 3) CloseConnection ∷ [])
    ≡ six ++ ok ∷ ok ∷ ok ∷ Err IllegalState ∷ Err IllegalState ∷ Err IllegalState ∷ ok ∷ ok ∷ Err IllegalState ∷ Err IllegalState ∷ ok ∷ Err IllegalState ∷ []
unfolding life_after is_next left_of selector_refusal selects defined accepts published refusal publish_refusal after answer reply step reply_to progress_to
closed_sessions = refl

-- Transactions

-- a transacted session acknowledges nothing, and recovers only by a rollback; another session has none
pub no_recovery_in_transaction : replies_to new_run (started_in Transacted ++ send 1000 (text 97) ∷ receive 1 1000 ∷ asks Acknowledge ∷ asks Recover ∷ asks Rollback ∷ receive 1 1000 ∷ Ask (Session publisher) Rollback ∷ [])
    ≡ six ++ Ok (Sent 1) ∷ got (text 97) 1 1000 1 ∷ ok ∷ Err IllegalState ∷ ok ∷ got (text 97) 1 1000 2 ∷ Err IllegalState ∷ []
unfolding life_after is_next left_of selector_refusal selects defined accepts published refusal publish_refusal after answer reply step reply_to progress_to
no_recovery_in_transaction = refl

-- session 2.2, which sends too
abbrev pub second_publisher : SessionId
second_publisher = record { connection = 2; number = 2 }

-- two transacted sessions send, and commit one after the other
abbrev pub interleaved_calls : List ClientCall
interleaved_calls =
    Ask (Connection 1) (Open None) ∷ Ask (Connection 2) (Open None) ∷ Ask (Session receiver) (CreateSession Auto) ∷ Ask (Session publisher) (CreateSession Transacted) ∷ Ask (Session second_publisher) (CreateSession Transacted)
    ∷ Ask (Session receiver) (CreateConsumer 1 (Topic topic) None false) ∷ Ask (Connection 1) Start ∷ send 1000 (text 97) ∷ Send second_publisher (text 98) (Topic topic) 1000 ∷ CommitSession second_publisher
    ∷ send 1000 (text 99) ∷ CommitSession publisher ∷ receive 1 1000 ∷ receive 1 1000 ∷ receive 1 1000 ∷ receive 1 1000 ∷ []

-- the reply to a receive that gets the message of that draft and number from session 2.2
abbrev pub got_of_second : Settings → ℕ → Result Answer Refusal
got_of_second draft n = Ok (Delivered (record {
  message = protected (message_of draft (Topic topic) (record { opening = 1; session = second_publisher }) n 1000);
  count = 1;
}))

-- the replies to these calls
abbrev pub interleaved_replies : List (Result Answer Refusal)
interleaved_replies = six ++ ok ∷ Ok (Sent 1) ∷ Ok (Sent 1) ∷ ok ∷ Ok (Sent 2) ∷ ok ∷ got_of_second (text 98) 1 ∷ got (text 97) 1 1000 1 ∷ got (text 99) 2 1000 1 ∷ none ∷ []

-- they come in the order of the commits
pub interleaved_commits : replies_to new_run interleaved_calls ≡ interleaved_replies
unfolding life_after is_next left_of selector_refusal selects defined accepts published refusal publish_refusal commit_refusal after after_commit answer reply step reply_to progress_to
interleaved_commits = refl

-- what the consumer's subscription answers alone
pub interleaved_alone : alone (Own receiver 1) (new_core 1 100000) (entries_of 1 interleaved_calls interleaved_replies)
    ≡ (5, ok) ∷ (12, got_of_second (text 98) 1) ∷ (13, got (text 97) 1 1000 1) ∷ (14, got (text 99) 2 1000 1) ∷ (15, none) ∷ []
unfolding life_after own_life is_next left_of selector_refusal selects defined accepts published refusal publish_refusal commit_refusal after after_commit answer reply step reply_to progress_to life_after_entry committed lone_of lone_did is_answered feed
interleaved_alone = refl

-- a rollback gives back what was received, counted, and drops what was sent: a commit after it publishes nothing
abbrev pub rollback_calls : List ClientCall
rollback_calls =
    started_in Transacted ++ Ask (Session publisher) (CreateConsumer 1 (Topic other_topic) None false) ∷ Ask (Connection 2) Start
    ∷ send 1000 (text 97) ∷ receive 1 1000 ∷ Send receiver (text 120) (Topic other_topic) 1000 ∷ asks Rollback ∷ receive 1 1000 ∷ CommitSession receiver ∷ receive 1 1000 ∷ Ask (Session publisher) (Receive 1 1000) ∷ []

-- the replies to these calls
abbrev pub rollback_replies : List (Result Answer Refusal)
rollback_replies = six ++ ok ∷ ok ∷ Ok (Sent 1) ∷ got (text 97) 1 1000 1 ∷ Ok (Sent 1) ∷ ok ∷ got (text 97) 1 1000 2 ∷ ok ∷ none ∷ none ∷ []

-- they are the machine's replies
pub rollback_redelivers : replies_to new_run rollback_calls ≡ rollback_replies
unfolding life_after is_next left_of selector_refusal selects defined accepts published refusal publish_refusal commit_refusal after after_commit answer reply step reply_to progress_to
rollback_redelivers = refl

-- what the two consumers' subscriptions answer alone
pub rollback_alone : alone (Own receiver 1) (new_core 1 100000) (entries_of 1 rollback_calls rollback_replies)
    ≡ (4, ok) ∷ (9, got (text 97) 1 1000 1) ∷ (12, got (text 97) 1 1000 2) ∷ (14, none) ∷ []
unfolding life_after own_life is_next left_of selector_refusal selects defined accepts published refusal publish_refusal commit_refusal after after_commit answer reply step reply_to progress_to life_after_entry committed lone_of lone_did is_answered feed
rollback_alone = refl

-- the same of the second consumer
pub rolled_back_never_comes : alone (Own publisher 1) (new_core 1 100000) (entries_of 1 rollback_calls rollback_replies) ≡ (6, ok) ∷ (15, none) ∷ []
unfolding life_after own_life is_next left_of selector_refusal selects defined accepts published refusal publish_refusal commit_refusal after after_commit answer reply step reply_to progress_to life_after_entry committed lone_of lone_did is_answered feed
rolled_back_never_comes = refl

-- a commit settles what was received before what was sent comes: of two rows one is free then, and the second message
-- is missed
abbrev pub held_limit_calls : List ClientCall
held_limit_calls =
    started_in Transacted ++ send 1000 (text 97) ∷ send 1000 (text 98) ∷ receive 1 1000 ∷ Send receiver (text 99) (Topic topic) 1000 ∷ Send receiver (text 100) (Topic topic) 1000 ∷ CommitSession receiver
    ∷ asks (Missed 1) ∷ receive 1 1000 ∷ receive 1 1000 ∷ receive 1 1000 ∷ []

-- the reply to a receive that gets the message of that draft and number from session 1.1
abbrev pub got_of_own : Settings → ℕ → Result Answer Refusal
got_of_own draft n = Ok (Delivered (record {
  message = protected (message_of draft (Topic topic) (record { opening = 1; session = receiver }) n 1000);
  count = 1;
}))

-- the replies to these calls, where a subscription may hold two rows
abbrev pub held_limit_replies : List (Result Answer Refusal)
held_limit_replies = six ++ Ok (Sent 1) ∷ Ok (Sent 2) ∷ got (text 97) 1 1000 1 ∷ Ok (Sent 1) ∷ Ok (Sent 2) ∷ ok ∷ Ok (MissedSoFar 1) ∷ got (text 98) 2 1000 1 ∷ got_of_own (text 99) 1 ∷ none ∷ []

-- they are the machine's replies
pub held_limit : replies_to (begun (new_core 1 2)) held_limit_calls ≡ held_limit_replies
unfolding life_after is_next left_of selector_refusal selects defined accepts published refusal publish_refusal commit_refusal after after_commit answer reply step reply_to progress_to
held_limit = refl

-- what the consumer's subscription answers alone
pub held_limit_alone : alone (Own receiver 1) (new_core 1 2) (entries_of 1 held_limit_calls held_limit_replies)
    ≡ (4, ok) ∷ (8, got (text 97) 1 1000 1) ∷ (12, Ok (MissedSoFar 1)) ∷ (13, got (text 98) 2 1000 1) ∷ (14, got_of_own (text 99) 1) ∷ (15, none) ∷ []
unfolding life_after own_life is_next left_of selector_refusal selects defined accepts published refusal publish_refusal commit_refusal after after_commit answer reply step reply_to progress_to life_after_entry committed lone_of lone_did is_answered feed
held_limit_alone = refl

-- what a session sent before it or its connection is closed never comes, and a session that is closed commits nothing
pub closed_in_transaction : replies_to new_run (Ask (Connection 1) (Open None) ∷ Ask (Connection 2) (Open None) ∷ Ask (Session receiver) (CreateSession Auto) ∷ Ask (Session publisher) (CreateSession Transacted) ∷ Ask (Session second_publisher) (CreateSession Transacted)
    ∷ Ask (Session receiver) (CreateConsumer 1 (Topic topic) None false) ∷ Ask (Connection 1) Start ∷ send 1000 (text 97) ∷ Send second_publisher (text 98) (Topic topic) 1000
    ∷ Ask (Session publisher) CloseSession ∷ CommitSession publisher ∷ Ask (Connection 2) CloseConnection ∷ CommitSession second_publisher ∷ receive 1 1000 ∷ [])
    ≡ six ++ ok ∷ Ok (Sent 1) ∷ Ok (Sent 1) ∷ ok ∷ Err IllegalState ∷ ok ∷ Err IllegalState ∷ none ∷ []
unfolding life_after is_next left_of selector_refusal selects defined accepts published refusal publish_refusal commit_refusal after after_commit answer reply step reply_to progress_to
closed_in_transaction = refl

-- a state with a transacted session 1.1 and a session 2.1 of mode Auto
abbrev pub two_sessions : State
two_sessions = (progress_after new_run (started_in Transacted)).state

-- the message of that opening and session
abbrev pub stamped_by : ℕ → SessionId → List Content
stamped_by opening s = message_of (text 97) (Topic topic) (record { opening = opening; session = s }) 1 1000 ∷ []

-- a publication is of a session that is not transacted, and a commit of one that is; each message was stamped by that
-- session in this opening
pub foreign_stamps :
    reply two_sessions (Session receiver) (Publish (stamped_by 1 receiver)) ∷ reply two_sessions (Session publisher) (Publish (stamped_by 1 receiver)) ∷ reply two_sessions (Session publisher) (Publish (stamped_by 2 publisher))
    ∷ reply two_sessions (Session publisher) (Publish (stamped_by 1 publisher)) ∷ reply two_sessions (Session publisher) (Commit (stamped_by 1 publisher)) ∷ reply two_sessions (Session receiver) (Commit (stamped_by 1 publisher))
    ∷ reply two_sessions (Session receiver) (Commit (stamped_by 2 receiver)) ∷ reply two_sessions (Session receiver) (Commit (stamped_by 1 receiver)) ∷ []
    ≡ Err IllegalState ∷ Err IllegalState ∷ Err IllegalState ∷ ok ∷ Err IllegalState ∷ Err IllegalState ∷ Err IllegalState ∷ ok ∷ []
unfolding life_after is_next left_of selector_refusal selects defined accepts published refusal publish_refusal commit_refusal after after_commit answer reply step reply_to progress_to
foreign_stamps = refl

-- two events of the two sessions: a commit that is done, and one that is refused
abbrev pub two_commits : List Event
two_commits =
    record { step = record { who = Session receiver; call = Commit (stamped_by 1 receiver) }; reply = ok }
    ∷ record { step = record { who = Session publisher; call = Commit (stamped_by 1 publisher) }; reply = Err IllegalState } ∷ []

-- they are a legal list, and expand to the first one's message and its commit
pub legal_commits : IsLegal two_sessions two_commits
unfolding life_after is_next left_of selector_refusal selects defined accepts published refusal publish_refusal commit_refusal after after_commit answer reply step reply_to progress_to
legal_commits = (refl, (refl, tt))

-- the record of these events
pub expanded_commits : expand two_commits ≡ map (λ m. SentEntry m) (stamped_by 1 receiver) ++ Committed receiver ∷ []
expanded_commits = refl

-- one message from a publisher to a subscriber, and beside it a transacted session that sends, rolls back and sends again
abbrev pub disturbed_calls : List ClientCall
disturbed_calls =
    started ++ Ask (Session second_publisher) (CreateSession Transacted) ∷ Send second_publisher (text 98) (Topic topic) 1000 ∷ send 1000 (text 97) ∷ Ask (Session second_publisher) Rollback
    ∷ Send second_publisher (text 99) (Topic topic) 1000 ∷ receive 1 1000 ∷ receive 1 1000 ∷ []

-- the replies to these calls
abbrev pub disturbed_replies : List (Result Answer Refusal)
disturbed_replies = six ++ ok ∷ Ok (Sent 1) ∷ Ok (Sent 1) ∷ ok ∷ Ok (Sent 2) ∷ got (text 97) 1 1000 1 ∷ none ∷ []

-- they are the machine's replies
pub disturbed : replies_to new_run disturbed_calls ≡ disturbed_replies
unfolding life_after is_next left_of selector_refusal selects defined accepts published refusal publish_refusal commit_refusal after after_commit answer reply step reply_to progress_to
disturbed = refl

-- the consumer's subscription is fed what it is fed where there is no such session
pub fed_alike :
    in_order (feed_of (Own receiver 1) (new_core 1 100000) (entries_of 1 disturbed_calls disturbed_replies))
    ≡ in_order (feed_of (Own receiver 1) (new_core 1 100000) (entries_of 1 first_message_calls first_message_replies))
unfolding life_after own_life is_next left_of selector_refusal selects defined accepts published refusal publish_refusal commit_refusal after after_commit answer reply step reply_to progress_to life_after_entry committed lone_of lone_did is_answered feed
fed_alike = refl
