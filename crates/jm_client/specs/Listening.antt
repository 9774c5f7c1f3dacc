-- What a session that listens is told, and what its listener does.
use Rattle.std.specs.Prelude.{◌≡◌, ◌⊎◌, ℕ, ◌+◌, ◌≤◌, [], true, false, Some, None, Result, Ok, Err, is_ok}
use Rattle.jm_base.specs.declared.refusal.Refusal.TheVariants.{OutOfRange}
use Rattle.jm_dest.specs.declared.session.SessionId.{SessionId}
use Rattle.jm_error.specs.Refused.{Refused, bare}
use Rattle.jm_listener.specs.declared.listener.After.{After}
use Rattle.jm_listener.specs.declared.listener.After.TheVariants.{Go, Acknowledge, Commit, Rollback, Recover}
use Rattle.jm_listener.specs.declared.listener.ListenerFault.{ListenerFault}
use Rattle.jm_machine.specs.declared.answer.Delivery.{Delivery}
use Rattle.jm_machine.specs.declared.call.Who.TheVariants.{Session}
use Rattle.jm_machine.specs.declared.call.Call.TheVariants as calls
use Rattle.jm_machine.specs.declared.call.Request.TheVariants as requests
use Rattle.jm_tx.specs.declared.buffer.Buffer.{Buffer}
use Rattle.jm_client.specs.Told.{Answers, Takes, Told, done_reply}

-- what a listener may do with a message in a session: it and the session before, the message, its answer, and both after
abbrev pub Handling : Type 0 → Type 1
Handling N = N → Buffer → Delivery → Result After ListenerFault → N → Buffer → Type 0

-- what waits in the session once the end of its transaction is told so
abbrev pub ended : Result (Unit {0}) Refused → Buffer → Buffer
ended (Ok u) b = record b { messages = [] }
ended (Err r) b = b

-- the call that the listener's answer names is told so, and what waits in the session then; a commit is one of all that waits.
-- Where the answer names none nothing is called
abbrev pub Follows : Result After ListenerFault → Buffer → Result (Unit {0}) Refused → Buffer → Type 0
Follows (Ok Go) old r new = (r ≡ Ok tt) × (new ≡ old)
Follows (Ok Acknowledge) old r new = Answers (Session old.sender.session) requests.Acknowledge r × (new ≡ old)
Follows (Ok Commit) old r new = Told (Session old.sender.session) (calls.Commit old.messages) (done_reply r) × (new ≡ ended r old)
Follows (Ok Rollback) old r new = Answers (Session old.sender.session) requests.Rollback r × (new ≡ ended r old)
Follows (Ok Recover) old r new = Answers (Session old.sender.session) requests.Recover r × (new ≡ old)
Follows (Err fault) old r new = (r ≡ Ok tt) × (new ≡ old)

-- a message came, which the session's listener took, and handled with that answer
pub record Handled {N : Type 0} (Handles : Handling N) (c : ℕ) (old : N) (before : Buffer) (answer : Result After ListenerFault) (new : N) (after : Buffer) : Type 0 where
  pub delivery : Delivery
  pub taken : Takes before.sender.session c (Ok (Some delivery))
  pub handled : Handles old before delivery answer new after

-- the end of a turn is told so: the delivery is ended, well just where the listener answered Ok, and the call that the answer
-- names is made; or the end of the delivery is refused, and no call is made
abbrev pub Finishes : SessionId → ℕ → Result After ListenerFault → Buffer → Result (Unit {0}) Refused → Buffer → Type 0
Finishes s c answer old (Ok u) new = Answers (Session s) (requests.Done c (is_ok answer)) (Ok tt) × Follows answer old (Ok tt) new
Finishes s c answer old (Err r) new =
    (Answers (Session s) (requests.Done c (is_ok answer)) (Err r) × (new ≡ old)) ⊎ (Answers (Session s) (requests.Done c (is_ok answer)) (Ok tt) × Follows answer old (Err r) new)

-- one turn: a message came, the listener handled it, and the turn's end was accepted
pub record Turn {N : Type 0} (Handles : Handling N) (c : ℕ) (old : N) (before : Buffer) (new : N) (after : Buffer) : Type 0 where
  pub answer : Result After ListenerFault
  pub left : Buffer
  pub handled : Handled Handles c old before answer new left
  pub finished : Finishes before.sender.session c answer left (Ok tt) after

-- a turn that a refusal broke off: the clock was not read, or the take was refused; or a message came, the listener handled it,
-- and the turn's end was refused
pub data Broken {N : Type 0} (Handles : Handling N) (c : ℕ) (old : N) (before : Buffer) (r : Refused) : N → Buffer → Type 0 where
  clock : r ≡ bare OutOfRange → Broken Handles c old before r old before
  take : Takes before.sender.session c (Err r) → Broken Handles c old before r old before
  finish : (answer : Result After ListenerFault) (new : N) (left after : Buffer) → Handled Handles c old before answer new left
      → Finishes before.sender.session c answer left (Err r) after → Broken Handles c old before r new after

-- so many turns, one after another
pub data Turns {N : Type 0} (Handles : Handling N) (c : ℕ) (old : N) (before : Buffer) : ℕ → N → Buffer → Type 0 where
  none : Turns Handles c old before 0 old before
  one_more : (n : ℕ) (mid new : N) (between after : Buffer) → Turns Handles c old before n mid between → Turn Handles c mid between new after → Turns Handles c old before (n + 1) new after

-- after n turns the listening is over: they are as many as were asked for, or no message came any more
abbrev pub IsOver : ℕ → ℕ → ℕ → Buffer → Type 0
IsOver c messages n b = (n ≡ messages) ⊎ Takes b.sender.session c (Ok None)

-- the turns of a listener of which so many messages are asked for: so many, and no more than these, until the listening is over;
-- or some, and one that a refusal broke off
abbrev pub Hears : {N : Type 0} → Handling N → ℕ → ℕ → N → Buffer → Result ℕ Refused → N → Buffer → Type 0
Hears Handles c messages old before (Ok n) new after = Turns Handles c old before n new after × IsOver c messages n after × (n ≤ messages)
Hears {N} Handles c messages old before (Err r) new after =
    (n : ℕ) × (mid : N) × (between : Buffer) × Turns Handles c old before n mid between × Broken Handles c mid between r new after

-- what is told of turns and of the taking away of their listener: the refusal of a turn, or else that of the taking away, or
-- else how many turns there were
abbrev pub outcome : Result ℕ Refused → Result (Unit {0}) Refused → Result ℕ Refused
outcome (Ok n) (Ok u) = Ok n
outcome (Ok n) (Err r) = Err r
outcome (Err r) taken_away = Err r

-- the listener of a consumer is not set, and all is as before; or it is set, has its turns, and is taken away
pub data Listens {N : Type 0} (Handles : Handling N) (c messages : ℕ) (old : N) (before : Buffer) : Result ℕ Refused → N → Buffer → Type 0 where
  not_set : (r : Refused) → Answers (Session before.sender.session) (requests.SetListener c true) (Err r) → Listens Handles c messages old before (Err r) old before
  set : (turns : Result ℕ Refused) (taken_away : Result (Unit {0}) Refused) (new : N) (after : Buffer)
      → Answers (Session before.sender.session) (requests.SetListener c true) (Ok tt) → Hears Handles c messages old before turns new after
      → Answers (Session before.sender.session) (requests.SetListener c false) taken_away → Listens Handles c messages old before (outcome turns taken_away) new after
