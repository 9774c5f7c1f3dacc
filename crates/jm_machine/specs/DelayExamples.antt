-- Worked runs with messages that have a delivery delay, computed on the definitions.
use Rattle.std.specs.Prelude.{◌≡◌, ℕ, false, List, ◌∷◌, [], ◌++◌, None, Ok, Err, refl}
use Rattle.jm_base.specs.declared.mode.Mode.TheVariants.{Auto, Client, Transacted}
use Rattle.jm_base.specs.declared.refusal.Refusal.TheVariants.{OutOfRange}
use Rattle.jm_dest.specs.declared.destination.Destination.TheVariants.{Topic}
use Rattle.jm_header.specs.declared.content.Settings.{Settings}
use Rattle.jm_machine.specs.declared.call.Who.TheVariants.{Connection, Session}
use Rattle.jm_machine.specs.declared.call.Request.TheVariants.{Open, Start, CreateSession, CreateConsumer, Recover, Missed}
use Rattle.jm_machine.specs.declared.call.ClientCall.{ClientCall}
use Rattle.jm_machine.specs.declared.call.ClientCall.TheVariants.{Ask, CommitSession}
use Rattle.jm_machine.specs.declared.answer.Answer.TheVariants.{Sent, Missed as MissedSoFar}
use Rattle.jm_machine.specs.Life.{life_after}
use Rattle.jm_machine.specs.Rows.{is_next, left_of}
use Rattle.jm_selector.specs.Selectors.{selector_refusal, selects}
use Rattle.jm_machine.specs.Machine.{new_core, defined, accepts, published, refusal, publish_refusal, commit_refusal, after, after_commit, answer, reply, step}
use Rattle.jm_machine.specs.Client.{begun, reply_to, progress_to, replies_to}
use Rattle.jm_machine.specs.Examples.{new_run, receiver, publisher, topic, text, of_priority, living, send, receive, ok, none, got, started, started_in, six, asks}

-- a draft with a delivery delay, made of another
abbrev pub delayed : ℕ → Settings → Settings
delayed delay draft = record draft { delivery_delay = delay }

-- a message is held back before its delivery time, and delivered from it on
pub held_back : replies_to new_run (started ++ send 1000 (delayed 500 (text 97)) ∷ receive 1 1499 ∷ receive 1 1500 ∷ receive 1 1500 ∷ [])
    ≡ six ++ Ok (Sent 1) ∷ none ∷ got (delayed 500 (text 97)) 1 1000 1 ∷ none ∷ []
unfolding life_after is_next left_of selector_refusal selects defined accepts published refusal publish_refusal after answer reply step reply_to progress_to
held_back = refl

-- both connections and sessions, of which session 2.1 is transacted, consumer 1 of the topic, and connection 1 starts
abbrev pub started_transacted : List ClientCall
started_transacted =
    Ask (Connection 1) (Open None) ∷ Ask (Connection 2) (Open None) ∷ Ask (Session receiver) (CreateSession Auto) ∷ Ask (Session publisher) (CreateSession Transacted)
    ∷ Ask (Session receiver) (CreateConsumer 1 (Topic topic) None false) ∷ Ask (Connection 1) Start ∷ []

-- in a transacted session the delay counts from the send
pub delayed_from_the_send : replies_to new_run (started_transacted ++ send 1000 (delayed 500 (text 97)) ∷ CommitSession publisher ∷ receive 1 1499 ∷ receive 1 1500 ∷ [])
    ≡ six ++ Ok (Sent 1) ∷ ok ∷ none ∷ got (delayed 500 (text 97)) 1 1000 1 ∷ []
unfolding life_after is_next left_of selector_refusal selects defined accepts published refusal publish_refusal commit_refusal after after_commit answer reply step reply_to progress_to
delayed_from_the_send = refl

-- a message that is held back hides none of lower priority
pub hides_no_lower : replies_to new_run (started ++ send 1000 (of_priority 4 97) ∷ send 1000 (delayed 500 (of_priority 9 98)) ∷ receive 1 1000 ∷ receive 1 1499 ∷ receive 1 1500 ∷ [])
    ≡ six ++ Ok (Sent 1) ∷ Ok (Sent 2) ∷ got (of_priority 4 97) 1 1000 1 ∷ none ∷ got (delayed 500 (of_priority 9 98)) 2 1000 1 ∷ []
unfolding life_after is_next left_of selector_refusal selects defined accepts published refusal publish_refusal after answer reply step reply_to progress_to
hides_no_lower = refl

-- one whose expiration is its delivery time is never delivered
pub expired_as_due : replies_to new_run (started ++ send 1000 (delayed 500 (living 500 97)) ∷ receive 1 1499 ∷ receive 1 1500 ∷ [])
    ≡ six ++ Ok (Sent 1) ∷ none ∷ none ∷ []
unfolding life_after is_next left_of selector_refusal selects defined accepts published refusal publish_refusal after answer reply step reply_to progress_to
expired_as_due = refl

-- one that was delivered and waits again is held back again at an earlier moment
pub held_back_again : replies_to new_run (started_in Client ++ send 1000 (delayed 500 (text 97)) ∷ receive 1 1500 ∷ asks Recover ∷ receive 1 1400 ∷ receive 1 1500 ∷ [])
    ≡ six ++ Ok (Sent 1) ∷ got (delayed 500 (text 97)) 1 1000 1 ∷ ok ∷ none ∷ got (delayed 500 (text 97)) 1 1000 2 ∷ []
unfolding life_after is_next left_of selector_refusal selects defined accepts published refusal publish_refusal after answer reply step reply_to progress_to
held_back_again = refl

-- without a delay a message is delivered also before its timestamp; a delay past the greatest moment is refused, and the
-- number of the send stays free
pub no_delay : replies_to new_run (started ++ send 1000 (text 97) ∷ receive 1 900 ∷ send 9223372036854775807 (delayed 1 (text 97)) ∷ send 1000 (text 98) ∷ [])
    ≡ six ++ Ok (Sent 1) ∷ got (text 97) 1 1000 1 ∷ Err OutOfRange ∷ Ok (Sent 2) ∷ []
unfolding life_after is_next left_of selector_refusal selects defined accepts published refusal publish_refusal after answer reply step reply_to progress_to
no_delay = refl

-- a row that is held back counts at the limit
pub held_back_at_limit : replies_to (begun (new_core 1 1)) (started ++ send 1000 (delayed 500 (text 97)) ∷ send 1000 (text 98) ∷ asks (Missed 1) ∷ receive 1 1000 ∷ receive 1 1500 ∷ [])
    ≡ six ++ Ok (Sent 1) ∷ Ok (Sent 2) ∷ Ok (MissedSoFar 1) ∷ none ∷ got (delayed 500 (text 97)) 1 1000 1 ∷ []
unfolding life_after is_next left_of selector_refusal selects defined accepts published refusal publish_refusal after answer reply step reply_to progress_to
held_back_at_limit = refl
