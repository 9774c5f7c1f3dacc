-- What was planned of each call, as listing reads it.
use Rattle.std.proofs.Common.{◌≡◌, ◌∙◌, ap, sym, Bool, true, false, cond, Option, Some, None}
use Rattle.std.specs.Prelude.{MatchBool}
use Rattle.jm_dest.specs.declared.key.Key.{Key}
use Rattle.jm_dest.specs.declared.session.SessionId.{SessionId}
use Rattle.jm_machine.specs.declared.call.Who.{Who}
use Rattle.jm_machine.specs.declared.call.Call.{Call}
use Rattle.jm_machine.specs.declared.call.Request.{Request}
use Rattle.jm_machine.specs.declared.call.Request.TheVariants as request
use Rattle.jm_machine.specs.declared.state.Consumer.{Consumer}
use Rattle.jm_machine.specs.declared.state.Definition.{Definition}
use Rattle.jm_machine.specs.Life.{client_of}
use Rattle.jm_machine.specs.Machine.{State, asked, consumer_of, definition_of, durable_of, same_definition, station_of}
use Rattle.jm_sub.specs.Subscriptions.{Subscription}
use Rattle.jm_parts.specs.declared.receive.Receiver.{Receiver}
use Rattle.jm_parts.specs.Takings.{source_of}
use Rattle.jm_plans.specs.declared.plan.Change.{Change}
use Rattle.jm_plans.specs.declared.plan.Change.TheVariants as change
use Rattle.jm_plans.specs.Named.{IsDecidedFor, decision_of}
use Rattle.jm_plans.specs.Plans.{IsPlan}
use Rattle.jm_plans.specs.Provider.{Provider, state_of}
use Rattle.jm_core.specs.Reading.{decides, deletes, delivery_to, place_taken, publishes, puts, takes}
use Rattle.jm_changes.specs.Planned.{IsDecided, IsPlannedCall, IsPlannedRequest, IsTaken}

decided_by : (held : Option Definition) (k : Key) (d : Definition) (decision : Option (Key × Subscription)) → decision ≡ decision_of held k d → IsDecided k d held (decides decision)
decided_by None k d decision e = ap decides e
decided_by (Some old) k d decision e = go (same_definition old d) e
  where
    go : (b : Bool) → decision ≡ cond b None (Some (k, record { key = k; definition = d })) → MatchBool b (decides decision ≡ None) (decides decision ≡ Some (k, d))
    go true e = ap decides e
    go false e = ap decides e

decided_for : (state : State) (s : SessionId) (r : Request) (decision : Option (Key × Subscription)) → IsDecidedFor state s r decision → IsPlannedRequest state s r None (decides decision) None
decided_for state s (request.CreateDurable c destination name selector no_local) decision e =
    let k = durable_of (client_of state.life) s name in
    decided_by (definition_of (station_of k state.stations)) k (asked destination selector no_local false) decision e
decided_for state s (request.CreateSharedDurable c destination name selector) decision e =
    let k = durable_of (client_of state.life) s name in
    decided_by (definition_of (station_of k state.stations)) k (asked destination selector false true) decision e
decided_for state s (request.CreateShared c destination name selector) decision e = tt
decided_for state s (request.CreateConsumer c destination selector no_local) decision e = tt
decided_for state s (request.Open client) decision e = absurd e
decided_for state s request.Start decision e = absurd e
decided_for state s request.Stop decision e = absurd e
decided_for state s request.CloseConnection decision e = absurd e
decided_for state s (request.CreateSession mode) decision e = absurd e
decided_for state s request.CloseSession decision e = absurd e
decided_for state s (request.Unsubscribe name) decision e = absurd e
decided_for state s (request.CloseConsumer c) decision e = absurd e
decided_for state s (request.Receive c now) decision e = absurd e
decided_for state s request.Acknowledge decision e = absurd e
decided_for state s request.Recover decision e = absurd e
decided_for state s request.Rollback decision e = absurd e
decided_for state s (request.Missed c) decision e = absurd e
decided_for state s (request.SetListener c on) decision e = absurd e
decided_for state s (request.Take c now) decision e = absurd e
decided_for state s (request.Done c ok) decision e = absurd e

-- the row that is taken is the next one of the consumer that receives, or whose listener takes
received : (state : State) (r : Receiver) → IsTaken state r.session r.consumer r.moment (place_taken state (delivery_to r.moment (source_of state.life state.consumers r.session r.consumer)))
received state r = λ x started found.
    let source : source_of state.life state.consumers r.session r.consumer ≡ Some x = ap (λ b. cond b (consumer_of state.consumers r.session r.consumer) None) started ∙ found in
    ap (λ (o : Option Consumer). place_taken state (delivery_to r.moment o)) source

listened : (state : State) (r : Receiver) → IsTaken state r.session r.consumer r.moment (place_taken state (delivery_to r.moment (consumer_of state.consumers r.session r.consumer)))
listened state r = λ x started found.
    ap (λ (o : Option Consumer). place_taken state (delivery_to r.moment o)) found

-- which was planned to be deleted and put, which row is taken, and which messages are published, for which places are left
pub planned_call : (p : Provider) (who : Who) (call : Call) (c : Change) → IsPlan p who call c → IsPlannedCall (state_of p) who call (deletes c) (puts c) (takes (state_of p) c) (publishes c)
planned_call p who call (change.Open c client) h = rw h.sender tt
planned_call p who call (change.Start c) h = rw h.0 tt
planned_call p who call (change.Stop c) h = rw h.0 tt
planned_call p who call (change.CloseConnection c) h = rw h.0 tt
planned_call p who call (change.CreateSession s mode) h = rw (h.0, h.1) tt
planned_call p who call (change.CloseSession s) h = rw (h.0, h.1) tt
planned_call p who call (change.CreateConsumer s c source decision) h = rw (h.sender, h.asked) (decided_for (state_of p) s h.request decision h.chosen)
planned_call p who call (change.Unsubscribe key) h = rw (h.sender, h.asked) (ap Some h.named)
planned_call p who call (change.CloseConsumer s c) h = rw (h.0, h.1) tt
planned_call p who call (change.Receive r taking) h = rw (h.sender, h.asked) (received (state_of p) r)
planned_call p who call (change.ReceiveFrom r taking) h = rw (h.sender, h.asked) (received (state_of p) r)
planned_call p who call (change.SetListener s c on) h = rw (h.0, h.1) tt
planned_call p who call (change.Take r taking) h = rw (h.sender, h.asked) (listened (state_of p) r)
planned_call p who call (change.TakeFrom r taking) h = rw (h.sender, h.asked) (listened (state_of p) r)
planned_call p who call change.Nothing h = rw (h.sender, h.asked) (λ x started found. absurd (let no : true ≡ false = sym started ∙ h.stopped in cc))
planned_call p who call (change.Done s c mode ok) h = rw (h.0, h.1) tt
planned_call p who call (change.Acknowledge s mode) h = rw (h.0, h.1) tt
planned_call p who call (change.Recover s) h = rw (h.0, h.1) tt
planned_call p who call (change.Rollback s) h = rw (h.0, h.1) tt
planned_call p who call (change.Missed n) h = rw (h.sender, h.asked) tt
planned_call p who call (change.Publish publications) h = rw (h.sender, h.asked) (h.prepared.same, h.prepared.places)
planned_call p who call (change.Commit s publications) h = rw (h.sender, h.asked) (h.prepared.same, h.prepared.places)
