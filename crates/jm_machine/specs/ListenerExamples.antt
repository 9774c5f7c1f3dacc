-- Worked runs with listeners, computed on the definitions.
use Rattle.std.specs.Prelude.{◌≡◌, ℕ, true, false, List, [], ◌∷◌, ◌++◌, None, Result, Ok, Err, refl}
use Rattle.jm_base.specs.declared.mode.Mode.TheVariants.{Auto, Client, Transacted}
use Rattle.jm_base.specs.declared.refusal.Refusal.{Refusal}
use Rattle.jm_base.specs.declared.refusal.Refusal.TheVariants.{IllegalState}
use Rattle.jm_dest.specs.declared.destination.Destination.TheVariants.{Queue}
use Rattle.jm_dest.specs.declared.key.Key.TheVariants.{Own}
use Rattle.jm_machine.specs.declared.call.Who.TheVariants.{Connection}
use Rattle.jm_machine.specs.declared.call.Request.TheVariants.{Open, Start, Stop, CreateSession, CloseSession, CreateConsumer, CloseConsumer, Receive, Acknowledge, Recover, Rollback, SetListener, Take, Done as DoneWith}
use Rattle.jm_machine.specs.declared.call.ClientCall.{ClientCall}
use Rattle.jm_machine.specs.declared.call.ClientCall.TheVariants.{Ask, Send, CommitSession}
use Rattle.jm_machine.specs.declared.answer.Answer.{Answer}
use Rattle.jm_machine.specs.declared.answer.Answer.TheVariants.{Sent}
use Rattle.jm_machine.specs.Life.{life_after, own_life}
use Rattle.jm_machine.specs.Rows.{is_next, left_of}
use Rattle.jm_selector.specs.Selectors.{selector_refusal, selects}
use Rattle.jm_machine.specs.Machine.{new_core, defined, accepts, published, refusal, publish_refusal, commit_refusal, after, after_commit, answer, reply, step}
use Rattle.jm_machine.specs.Client.{reply_to, progress_to, replies_to}
use Rattle.jm_machine.specs.Entries.{entries_of, life_after_entry, committed}
use Rattle.jm_machine.specs.Lone.{lone_of, lone_did, is_answered, feed}
use Rattle.jm_machine.specs.Isolation.{alone}
use Rattle.jm_machine.specs.Examples.{new_run, receiver, publisher, topic, text, living, send, receive, ok, none, got, got_of, opened, started, started_in, five, six, asks}
use Rattle.jm_machine.specs.SubscriptionExamples.{second_receiver, by, shared}

-- the listener of a consumer takes a message
abbrev pub take : ℕ → ℕ → ClientCall
take c now = asks (Take c now)

-- one that listens receives nothing else, and while it is busy it takes nothing more and is not closed; what is given back
-- comes again, counted, and what is settled does not
abbrev pub listeners_calls : List ClientCall
listeners_calls =
    started ++ send 1000 (text 97) ∷ asks (SetListener 1 true) ∷ receive 1 1000 ∷ take 1 1000 ∷ take 1 1000 ∷ asks (CloseConsumer 1) ∷ asks (DoneWith 1 false)
    ∷ take 1 1000 ∷ asks (DoneWith 1 true) ∷ take 1 1000 ∷ asks (DoneWith 1 true) ∷ []

-- the replies to these calls
abbrev pub listeners_replies : List (Result Answer Refusal)
listeners_replies = six ++ Ok (Sent 1) ∷ ok ∷ Err IllegalState ∷ got (text 97) 1 1000 1 ∷ Err IllegalState ∷ Err IllegalState ∷ ok ∷ got (text 97) 1 1000 2 ∷ ok ∷ none ∷ Err IllegalState ∷ []

-- they are the machine's replies
pub listeners : replies_to new_run listeners_calls ≡ listeners_replies
unfolding life_after is_next left_of selector_refusal selects defined accepts published refusal publish_refusal after answer reply step reply_to progress_to
listeners = refl

-- what the consumer's subscription answers alone
pub listeners_alone : alone (Own receiver 1) (new_core 1 100000) (entries_of 1 listeners_calls listeners_replies)
    ≡ (4, ok) ∷ (7, ok) ∷ (8, Err IllegalState) ∷ (9, got (text 97) 1 1000 1) ∷ (10, Err IllegalState) ∷ (11, Err IllegalState) ∷ (12, ok) ∷ (13, got (text 97) 1 1000 2) ∷ (14, ok) ∷ (15, none) ∷ (16, Err IllegalState) ∷ []
unfolding life_after own_life is_next left_of selector_refusal selects defined accepts published refusal publish_refusal after answer reply step reply_to progress_to life_after_entry committed lone_of lone_did is_answered feed
listeners_alone = refl

-- one that does not listen takes nothing; its listener is not taken away while it is busy, and is after it; then it
-- receives again
pub listener_taken_away : replies_to new_run (started ++ take 1 1000 ∷ asks (DoneWith 1 true) ∷ asks (SetListener 1 true) ∷ send 1000 (text 97) ∷ send 1000 (text 98) ∷ take 1 1000 ∷ asks (SetListener 1 false)
    ∷ asks (DoneWith 1 true) ∷ asks (SetListener 1 false) ∷ take 1 1000 ∷ receive 1 1000 ∷ asks (CloseConsumer 1) ∷ asks (SetListener 1 true) ∷ [])
    ≡ six ++ Err IllegalState ∷ Err IllegalState ∷ ok ∷ Ok (Sent 1) ∷ Ok (Sent 2) ∷ got (text 97) 1 1000 1 ∷ Err IllegalState ∷ ok ∷ ok ∷ Err IllegalState ∷ got (text 98) 2 1000 1 ∷ ok ∷ Err IllegalState ∷ []
unfolding life_after is_next left_of selector_refusal selects defined accepts published refusal publish_refusal after answer reply step reply_to progress_to
listener_taken_away = refl

-- on a stopped connection nothing comes, nothing is dropped, and the consumer is not busy; a connection is stopped also
-- while a consumer is busy, which is done then
pub stopped_listener : replies_to new_run (opened ++ asks (SetListener 1 true) ∷ send 1000 (living 10 97) ∷ take 1 2000 ∷ asks (SetListener 1 true) ∷ Ask (Connection 1) Start ∷ take 1 1000 ∷ Ask (Connection 1) Stop ∷ asks (DoneWith 1 false)
    ∷ take 1 1000 ∷ Ask (Connection 1) Start ∷ take 1 2000 ∷ take 1 1000 ∷ [])
    ≡ five ++ ok ∷ Ok (Sent 1) ∷ none ∷ ok ∷ ok ∷ got (living 10 97) 1 1000 1 ∷ ok ∷ ok ∷ none ∷ ok ∷ none ∷ none ∷ []
unfolding life_after is_next left_of selector_refusal selects defined accepts published refusal publish_refusal after answer reply step reply_to progress_to
stopped_listener = refl

-- where the client acknowledges, what a listener is done with stays out until that, given back or not
pub listener_acknowledges : replies_to new_run (started_in Client ++ send 1000 (text 97) ∷ asks (SetListener 1 true) ∷ take 1 1000 ∷ asks (DoneWith 1 false) ∷ take 1 1000 ∷ asks Recover ∷ take 1 1000 ∷ asks Recover ∷ take 1 1000 ∷ asks (DoneWith 1 true)
    ∷ take 1 1000 ∷ asks (DoneWith 1 true) ∷ asks Acknowledge ∷ asks Recover ∷ take 1 1000 ∷ [])
    ≡ six ++ Ok (Sent 1) ∷ ok ∷ got (text 97) 1 1000 1 ∷ ok ∷ none ∷ ok ∷ got (text 97) 1 1000 2 ∷ ok ∷ Err IllegalState ∷ ok ∷ got (text 97) 1 1000 3 ∷ ok ∷ ok ∷ ok ∷ none ∷ []
unfolding life_after is_next left_of selector_refusal selects defined accepts published refusal publish_refusal after answer reply step reply_to progress_to
listener_acknowledges = refl

-- in a transaction it stays out until that ends: after a rollback it comes again, and after a commit it does not
pub listener_in_transaction : replies_to new_run (started_in Transacted ++ send 1000 (text 97) ∷ asks (SetListener 1 true) ∷ take 1 1000 ∷ asks Rollback ∷ take 1 1000 ∷ asks (DoneWith 1 true) ∷ take 1 1000 ∷ asks (DoneWith 1 false) ∷ CommitSession receiver ∷ asks Rollback ∷ take 1 1000 ∷ [])
    ≡ six ++ Ok (Sent 1) ∷ ok ∷ got (text 97) 1 1000 1 ∷ ok ∷ Err IllegalState ∷ ok ∷ got (text 97) 1 1000 2 ∷ ok ∷ ok ∷ ok ∷ none ∷ []
unfolding life_after is_next left_of selector_refusal selects defined accepts published refusal publish_refusal commit_refusal after after_commit answer reply step reply_to progress_to
listener_in_transaction = refl

-- a recovery gives back what a busy consumer was given, and the consumer stays busy; another consumer of the subscription
-- has the message then, and what the first one is done with is no longer out through it
pub recovered_while_busy : replies_to new_run
    (Ask (Connection 1) (Open None) ∷ Ask (Connection 2) (Open None) ∷ asks (CreateSession Auto) ∷ by publisher (CreateSession Client) ∷ Ask (Connection 1) Start ∷ Ask (Connection 2) Start ∷ asks (shared 1) ∷ by publisher (shared 1)
    ∷ asks (SetListener 1 true) ∷ send 1000 (text 97) ∷ take 1 1000 ∷ asks Recover ∷ take 1 1000 ∷ by publisher (Receive 1 1000) ∷ asks (DoneWith 1 true) ∷ by publisher Recover ∷ by publisher (Receive 1 1000)
    ∷ by publisher Acknowledge ∷ by publisher Recover ∷ by publisher (Receive 1 1000) ∷ [])
    ≡ six ++ ok ∷ ok ∷ ok ∷ Ok (Sent 1) ∷ got (text 97) 1 1000 1 ∷ ok ∷ Err IllegalState ∷ got (text 97) 1 1000 2 ∷ ok ∷ ok ∷ got (text 97) 1 1000 3 ∷ ok ∷ ok ∷ none ∷ []
unfolding life_after is_next left_of selector_refusal selects defined accepts published refusal publish_refusal after answer reply step reply_to progress_to
recovered_while_busy = refl

-- a session is closed also while a consumer of it is busy, and what that was given comes to another; in the closed session
-- nothing is done
pub closed_while_busy : replies_to new_run
    (started ++ asks (CreateConsumer 2 (Queue topic) None false) ∷ Send publisher (text 97) (Queue topic) 1000 ∷ asks (SetListener 2 true) ∷ take 2 1000 ∷ asks CloseSession ∷ asks (DoneWith 2 true) ∷ asks (CloseConsumer 2)
    ∷ by second_receiver (CreateSession Auto) ∷ by second_receiver (CreateConsumer 1 (Queue topic) None false) ∷ by second_receiver (Receive 1 1000) ∷ by second_receiver (Receive 1 1000) ∷ [])
    ≡ six ++ ok ∷ Ok (Sent 1) ∷ ok ∷ got_of (Queue topic) (text 97) 1 1000 1 ∷ ok ∷ Err IllegalState ∷ ok ∷ ok ∷ ok ∷ got_of (Queue topic) (text 97) 1 1000 2 ∷ none ∷ []
unfolding life_after is_next left_of selector_refusal selects defined accepts published refusal publish_refusal after answer reply step reply_to progress_to
closed_while_busy = refl
