-- What a subscription alone is made of, and what it owes to a session's request.
use Rattle.std.specs.Prelude.{◌≡◌, ℕ, Bool, true, false, not, List, Option, Some, None, Result, is_none, if◌then◌else◌}
use Rattle.jm_base.specs.declared.refusal.Refusal.{Refusal}
use Rattle.jm_base.specs.declared.refusal.Refusal.TheVariants.{SubscriptionInUse}
use Rattle.jm_dest.specs.declared.session.SessionId.{SessionId}
use Rattle.jm_dest.specs.declared.key.Key.{Key}
use Rattle.jm_dest.specs.declared.key.Key.TheVariants.{Own, SharedOwn, Durable, Queue as OfQueue}
use Rattle.jm_dest.specs.Keys.{key_eq}
use Rattle.jm_machine.specs.declared.answer.Answer.{Answer}
use Rattle.jm_machine.specs.declared.answer.Answer.TheVariants.{Done, Sent, Delivered, Nothing, Missed}
use Rattle.jm_machine.specs.declared.call.Request.{Request}
use Rattle.jm_machine.specs.declared.call.Request.TheVariants.{CreateSharedDurable}
use Rattle.jm_machine.specs.declared.call.Who.{Who}
use Rattle.jm_machine.specs.declared.call.Who.TheVariants.{Session}
use Rattle.jm_machine.specs.declared.state.Definition.{Definition}
use Rattle.jm_machine.specs.Lone.About.{ThisKey, OtherKey, WholeSession}
use Rattle.jm_machine.specs.Machine.{durable_of, is_home, is_idle, may_resume, replied, unless}
use Rattle.jm_machine.specs.Lone.{About, Scope, Lone, lone_did, lone_holding, lone_refusal, lone_reply, lone_subscribed}

-- the key is that of a subscription that is held alone: a consumer's own, or a durable one
abbrev pub is_held_alone : Key → Bool
is_held_alone (OfQueue name) = false
is_held_alone (Own s c) = true
is_held_alone (SharedOwn client name) = false
is_held_alone (Durable client name) = true

-- the answer hands a message out
abbrev pub is_handed_out : Answer → Bool
is_handed_out Done = false
is_handed_out (Sent number) = false
is_handed_out (Delivered delivery) = true
is_handed_out Nothing = false
is_handed_out (Missed number) = false

-- what is held after a session's request, which may be refused
abbrev pub after : Key → Lone → SessionId → Request → Lone
after key old s request = if is_none (lone_refusal old (Session s) request) then lone_did key old (Session s) request else old

-- the reply to a session's request that the subscription answers, and what is held after it
abbrev pub IsAnswered : Key → Lone → SessionId → Request → Result Answer Refusal → Lone → Type 0
IsAnswered key old s request reply new = (reply ≡ lone_reply old (Session s) request) × (new ≡ after key old s request)

-- the request is about the whole session
abbrev pub is_whole_session : About → Bool
is_whole_session ThisKey = false
is_whole_session OtherKey = false
is_whole_session WholeSession = true

-- the call does not ask for a shared durable subscription of the key
abbrev pub asks_no_shared : Scope → Who → Request → Bool
asks_no_shared scope (Session s) (CreateSharedDurable c destination name selector) = not (key_eq (durable_of scope.clients s name) scope.key)
asks_no_shared scope _ _ = true

-- why the unshared durable subscription that asks for that may not be had; none where it may
abbrev pub attaching_refusal : Lone → Definition → Option Refusal
attaching_refusal lone d = unless (may_resume lone.definition (is_idle (lone_holding lone)) (is_home (lone_holding lone)) d) SubscriptionInUse

-- the reply to a session's consumer that attaches where it may, and what is held after it
abbrev pub IsAttached : Key → Lone → SessionId → ℕ → Definition → Result Answer Refusal → Lone → Type 0
IsAttached key old s c d reply new =
    (reply ≡ replied (attaching_refusal old d) Done) × (new ≡ (if is_none (attaching_refusal old d) then lone_subscribed s c key d old else old))
