-- What the turns of a job add to its pass.
use Rattle.std.specs.Prelude.{◌≡◌, ℕ, ◌+◌, [], Bool, true, false, Option, Some, None, Result, Ok, Err, is_ok, cond}
use Rattle.jm_base.specs.declared.refusal.Refusal.{Refusal}
use Rattle.jm_dest.specs.declared.session.SessionId.{SessionId}
use Rattle.jm_machine.specs.declared.answer.Answer.{Answer}
use Rattle.jm_machine.specs.declared.answer.Answer.TheVariants.{Delivered}
use Rattle.jm_machine.specs.declared.call.Who.TheVariants.{Session}
use Rattle.jm_machine.specs.declared.call.Call.{Call}
use Rattle.jm_machine.specs.declared.call.Call.TheVariants as calls
use Rattle.jm_machine.specs.declared.call.Request.TheVariants as requests
use Rattle.jm_machine.specs.declared.call.Step.{Step}
use Rattle.jm_audit.specs.Passes.{Calls}
use Rattle.jm_broker.specs.Calls.{HasSame, Noted}
use Rattle.jm_listener.specs.declared.listener.After.{After}
use Rattle.jm_listener.specs.declared.listener.After.TheVariants as after
use Rattle.jm_listener.specs.declared.listener.ListenerFault.{ListenerFault}

-- a call of the session
abbrev pub by_session : SessionId → Call → Step
by_session s call = record { who = Session s; call = call }

-- the consumer's listener asks for its next message at that moment
abbrev pub take : SessionId → ℕ → ℕ → Step
take s c t = by_session s (calls.Ask (requests.Take c t))

-- its delivery ends, well or not
abbrev pub done : SessionId → ℕ → Bool → Step
done s c ok = by_session s (calls.Ask (requests.Done c ok))

-- what is called after a message, as its listener answered; nothing, where that failed
abbrev pub call_after : Result After ListenerFault → Option Call
call_after (Ok after.Go) = None
call_after (Ok after.Acknowledge) = Some (calls.Ask requests.Acknowledge)
call_after (Ok after.Commit) = Some (calls.Commit [])
call_after (Ok after.Rollback) = Some (calls.Ask requests.Rollback)
call_after (Ok after.Recover) = Some (calls.Ask requests.Recover)
call_after (Err fault) = None

abbrev pub is_delivered : Result Answer Refusal → Bool
is_delivered (Ok (Delivered d)) = true
is_delivered _ = false

-- the listener's consumer asked for a message at some moment, and whether one came
pub record Takes (s : SessionId) (c : ℕ) (old new : Calls) (came : Bool) : Type 0 where
  pub now : ℕ
  pub reply : Result Answer Refusal
  pub noted : Noted old new (take s c now) reply
  pub is : came ≡ is_delivered reply

-- its delivery ended, well or not, and whether that was accepted
pub record Ends (s : SessionId) (c : ℕ) (ok : Bool) (old new : Calls) (accepted : Bool) : Type 0 where
  pub reply : Result Answer Refusal
  pub noted : Noted old new (done s c ok) reply
  pub is : accepted ≡ is_ok reply

-- the session made that call, where there is one, whatever was replied
abbrev pub Follows : SessionId → Option Call → Calls → Calls → Type 0
Follows s None old new = HasSame old new
Follows s (Some call) old new = (r : Result Answer Refusal) × Noted old new (by_session s call) r

-- one turn: no message came; or one came, its listener answered, the delivery was ended as that says, and what is to be called
-- after it was called. `ended` is 1 where the end was accepted
pub data Turn (s : SessionId) (c : ℕ) (old new : Calls) (ended : ℕ) : Type 0 where
  nothing : Takes s c old new false → ended ≡ 0 → Turn s c old new ended
  message : (answer : Result After ListenerFault) (accepted : Bool) (taken told : Calls) → Takes s c old taken true → Ends s c (is_ok answer) taken told accepted
      → Follows s (call_after answer) told new → ended ≡ cond accepted 1 0 → Turn s c old new ended

-- so many turns in order, and how many deliveries they ended
pub data Turns (s : SessionId) (c : ℕ) (old : Calls) : ℕ → Calls → ℕ → Type 0 where
  none : Turns s c old 0 old 0
  one_more : (n : ℕ) (mid new : Calls) (ended more : ℕ) → Turns s c old n mid ended → Turn s c mid new more → Turns s c old (n + 1) new (ended + more)
