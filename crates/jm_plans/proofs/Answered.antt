-- A call that is planned is not refused.
use Rattle.std.proofs.Common.{◌≡◌, Bool, true, false, subst, refl, Result, Ok}
use Rattle.std.specs.Prelude.{IsOk, Option}
use Rattle.jm_base.specs.declared.refusal.Refusal.{Refusal}
use Rattle.jm_machine.specs.declared.answer.Answer.{Answer}
use Rattle.jm_machine.specs.declared.answer.Answer.TheVariants.{Done}
use Rattle.jm_machine.specs.declared.call.Who.{Who}
use Rattle.jm_machine.specs.declared.call.Call.{Call}
use Rattle.jm_machine.specs.Machine.{refusal, reply}
use Rattle.jm_plans.specs.declared.plan.Change.{Change}
use Rattle.jm_plans.specs.declared.plan.Change.TheVariants as change
use Rattle.jm_plans.specs.Plans.{IsPlan, IsReceiving, IsReceivingFrom, IsTaking, IsTakingFrom}
use Rattle.jm_plans.specs.Provider.{Provider, state_of}
use Rattle.jm_parts.specs.declared.receive.Receiver.{Receiver}
use Rattle.jm_parts.specs.declared.receive.Taking.{Taking}
use Rattle.jm_plans.proofs.Listening.{done_told, idle_told, listener_set}
use Rattle.jm_plans.proofs.Planned.{acknowledged, all_committed, all_published, connection_closed, consumer_closed, consumer_made, missing_told, opened, recovered, rolled_back, session_closed, session_made, started, stopped, subscription_deleted}

ok_of : (r : Result Answer Refusal) (a : Answer) → Ok a ≡ r → IsOk r
ok_of r a e = subst IsOk e refl

received_ok : (p : Provider) (who : Who) (call : Call) (r : Receiver) (taking : Option Taking) → IsReceiving p who call r taking → IsOk (reply (state_of p) who call)
unfolding reply refusal
received_ok p who call r taking h = rw (h.sender, h.asked, h.allowed) refl

received_from_ok : (p : Provider) (who : Who) (call : Call) (r : Receiver) (taking : Option Taking) → IsReceivingFrom p who call r taking → IsOk (reply (state_of p) who call)
unfolding reply refusal
received_from_ok p who call r taking h = rw (h.sender, h.asked, h.allowed) refl

taken_ok : (p : Provider) (who : Who) (call : Call) (r : Receiver) (taking : Option Taking) → IsTaking p who call r taking → IsOk (reply (state_of p) who call)
unfolding reply refusal
taken_ok p who call r taking h = rw (h.sender, h.asked, h.allowed) refl

taken_from_ok : (p : Provider) (who : Who) (call : Call) (r : Receiver) (taking : Option Taking) → IsTakingFrom p who call r taking → IsOk (reply (state_of p) who call)
unfolding reply refusal
taken_from_ok p who call r taking h = rw (h.sender, h.asked, h.allowed) refl

-- the change is answered with nothing but that it is done
abbrev pub is_done : Change → Bool
is_done (change.Receive r taking) = false
is_done (change.ReceiveFrom r taking) = false
is_done (change.Take r taking) = false
is_done (change.TakeFrom r taking) = false
is_done change.Nothing = false
is_done (change.Missed n) = false
is_done _ = true

pub planned_done : (p : Provider) (who : Who) (call : Call) (c : Change) → is_done c ≡ true → IsPlan p who call c → Ok Done ≡ reply (state_of p) who call
planned_done p who call (change.Open c client) d h = (opened p who call c client _ h refl).0
planned_done p who call (change.Start c) d h = (started p who call c _ h refl).0
planned_done p who call (change.Stop c) d h = (stopped p who call c _ h refl).0
planned_done p who call (change.CloseConnection c) d h = (connection_closed p who call c _ h refl).0
planned_done p who call (change.CreateSession s mode) d h = (session_made p who call s mode _ h refl).0
planned_done p who call (change.CloseSession s) d h = (session_closed p who call s _ h refl).0
planned_done p who call (change.CreateConsumer s c source decision) d h = (consumer_made p who call s c source decision _ h refl).0
planned_done p who call (change.Unsubscribe key) d h = (subscription_deleted p who call key _ h refl).0
planned_done p who call (change.CloseConsumer s c) d h = (consumer_closed p who call s c _ h refl).0
planned_done p who call (change.Receive r taking) d h = absurd cc
planned_done p who call (change.ReceiveFrom r taking) d h = absurd cc
planned_done p who call (change.SetListener s c on) d h = (listener_set p who call s c on _ h refl).0
planned_done p who call (change.Take r taking) d h = absurd cc
planned_done p who call (change.TakeFrom r taking) d h = absurd cc
planned_done p who call change.Nothing d h = absurd cc
planned_done p who call (change.Done s c mode ok) d h = (done_told p who call s c mode ok _ h refl).0
planned_done p who call (change.Acknowledge s mode) d h = (acknowledged p who call s mode _ h refl).0
planned_done p who call (change.Recover s) d h = (recovered p who call s _ h refl).0
planned_done p who call (change.Rollback s) d h = (rolled_back p who call s _ h refl).0
planned_done p who call (change.Missed n) d h = absurd cc
planned_done p who call (change.Publish publications) d h = (all_published p who call publications.items _ h refl).0
planned_done p who call (change.Commit s publications) d h = (all_committed p who call s publications.items _ h refl).0

pub planned_ok : (p : Provider) (who : Who) (call : Call) (c : Change) → IsPlan p who call c → IsOk (reply (state_of p) who call)
planned_ok p who call (change.Open c client) h = ok_of _ _ (planned_done p who call (change.Open c client) refl h)
planned_ok p who call (change.Start c) h = ok_of _ _ (planned_done p who call (change.Start c) refl h)
planned_ok p who call (change.Stop c) h = ok_of _ _ (planned_done p who call (change.Stop c) refl h)
planned_ok p who call (change.CloseConnection c) h = ok_of _ _ (planned_done p who call (change.CloseConnection c) refl h)
planned_ok p who call (change.CreateSession s mode) h = ok_of _ _ (planned_done p who call (change.CreateSession s mode) refl h)
planned_ok p who call (change.CloseSession s) h = ok_of _ _ (planned_done p who call (change.CloseSession s) refl h)
planned_ok p who call (change.CreateConsumer s c source decision) h = ok_of _ _ (planned_done p who call (change.CreateConsumer s c source decision) refl h)
planned_ok p who call (change.Unsubscribe key) h = ok_of _ _ (planned_done p who call (change.Unsubscribe key) refl h)
planned_ok p who call (change.CloseConsumer s c) h = ok_of _ _ (planned_done p who call (change.CloseConsumer s c) refl h)
planned_ok p who call (change.Receive r taking) h = received_ok p who call r taking h
planned_ok p who call (change.ReceiveFrom r taking) h = received_from_ok p who call r taking h
planned_ok p who call (change.SetListener s c on) h = ok_of _ _ (planned_done p who call (change.SetListener s c on) refl h)
planned_ok p who call (change.Take r taking) h = taken_ok p who call r taking h
planned_ok p who call (change.TakeFrom r taking) h = taken_from_ok p who call r taking h
planned_ok p who call change.Nothing h = ok_of _ _ (idle_told p who call h).0
planned_ok p who call (change.Done s c mode ok) h = ok_of _ _ (planned_done p who call (change.Done s c mode ok) refl h)
planned_ok p who call (change.Acknowledge s mode) h = ok_of _ _ (planned_done p who call (change.Acknowledge s mode) refl h)
planned_ok p who call (change.Recover s) h = ok_of _ _ (planned_done p who call (change.Recover s) refl h)
planned_ok p who call (change.Rollback s) h = ok_of _ _ (planned_done p who call (change.Rollback s) refl h)
planned_ok p who call (change.Missed n) h = ok_of _ _ (missing_told p who call n h).0
planned_ok p who call (change.Publish publications) h = ok_of _ _ (planned_done p who call (change.Publish publications) refl h)
planned_ok p who call (change.Commit s publications) h = ok_of _ _ (planned_done p who call (change.Commit s publications) refl h)
