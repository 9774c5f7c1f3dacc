-- The lock over a core may be shared by threads, since what lies under it may cross. One lemma a type, since a search for all of them
-- at once runs out of steps.
use denote.RattleType.{RattleType}
use denote.Param.Send.{IsSend, IsSync, sendable}
use Rattle.std.proofs.Crossing.{crosses}
use Rattle.std.proofs.sync.ledger.Book.TheSendSync as book
use Rattle.std.proofs.sync.ledger.Share.TheSendSync as share
use Rattle.std.specs.declared.sync.ledger.Ledger.{Ghosts}
use Rattle.jm_base.proofs.list.List.TheSendSync as list
use Rattle.jm_sends.proofs.Sent.{Core_send, Message_send, Name_send, Str_send}
use Rattle.jm_dest.specs.contracts.destination.Destination as Destination
use Rattle.jm_dest.specs.contracts.name.ClientId as ClientId
use Rattle.jm_dest.specs.contracts.name.SubscriptionName as SubscriptionName
use Rattle.jm_dest.specs.contracts.number.ConsumerId as ConsumerId
use Rattle.jm_dest.specs.contracts.number.ConnectionId as ConnectionId
use Rattle.jm_dest.specs.contracts.session.SessionId as SessionId
use Rattle.jm_machine.specs.contracts.answer.Delivery as Delivery
use Rattle.jm_machine.specs.contracts.answer.Answer as Answer
use Rattle.jm_machine.specs.contracts.call.Who as Who
use Rattle.jm_machine.specs.contracts.call.Request as Request
use Rattle.jm_machine.specs.contracts.call.Call as Call
use Rattle.jm_machine.specs.contracts.call.Step as Step
use Rattle.jm_machine.specs.contracts.entry.Event as Event
use Rattle.jm_core.specs.contracts.provider.Core as Core
use Rattle.jm_core.specs.contracts.planned.Plan as Plan
use Rattle.jm_keep.specs.contracts.keep.NoKeep as NoKeep
use Rattle.jm_keep.specs.declared.keep.Keep as Keep
use Rattle.jm_keep.specs.contracts.keep.NoKeepKeep.TheImpl as kept
use Rattle.jm_broker.specs.contracts.provider.CorePlannedCore.TheImpl as planned
use Rattle.jm_broker.specs.contracts.broker.Broker as Broker
use Rattle.jm_broker.specs.contracts.traced.Traced as Traced
use Rattle.jm_audit.specs.contracts.pass.Pass as Pass
use Rattle.jm_audit.specs.contracts.pass.PassEntry as PassEntry
use Rattle.jm_broker.specs.contracts.trace.Trace as Trace

pub ClientId_send : IsSend ClientId.the_row
ClientId_send = search (sendable, crosses, Name_send) depth 60 fits 20000

pub SubscriptionName_send : IsSend SubscriptionName.the_row
SubscriptionName_send = search (sendable, crosses, Name_send) depth 60 fits 20000

pub Destination_field : IsSend (Destination.the_field).row
Destination_field = search (sendable, crosses, Name_send) depth 60 fits 20000

pub ConsumerId_send : IsSend ConsumerId.the_row
ConsumerId_send = search (sendable, crosses) depth 60 fits 20000

pub ConnectionId_send : IsSend ConnectionId.the_row
ConnectionId_send = search (sendable, crosses) depth 60 fits 20000

pub SessionId_field : IsSend (SessionId.the_field).row
SessionId_field = search (sendable, crosses, ConnectionId_send) depth 60 fits 20000

pub Who_field : IsSend (Who.the_field).row
Who_field = search (sendable, crosses, ConnectionId_send, SessionId_field) depth 60 fits 20000

pub Request_field : IsSend (Request.the_field).row
Request_field = search (sendable, crosses, ClientId_send, SubscriptionName_send, Destination_field, ConsumerId_send, Str_send) depth 60 fits 20000

pub Call_field : IsSend (Call.the_field).row
Call_field = search (sendable, crosses, list.the_send, Request_field, Message_send) depth 60 fits 20000

pub Delivery_field : IsSend (Delivery.the_field).row
Delivery_field = search (sendable, crosses, Message_send) depth 60 fits 20000

pub Answer_send : IsSend Answer.the_row
Answer_send = search (sendable, crosses, Delivery_field) depth 60 fits 20000

pub Step_field : IsSend (Step.the_field).row
Step_field = search (sendable, crosses, Who_field, Call_field) depth 60 fits 20000

pub Event_field : IsSend (Event.the_field).row
Event_field = search (sendable, crosses, Step_field, Answer_send) depth 60 fits 20000

pub Trace_send : IsSend (Trace.the_row Core.the_row Plan.the_row planned.ghosts)
Trace_send = search (sendable, crosses, Core_send, Event_field) depth 60 fits 20000

pub NoKeep_send : IsSend NoKeep.the_row
NoKeep_send = search (sendable, crosses) depth 60 fits 20000

pub PassEntry_field : IsSend (PassEntry.the_field).row
PassEntry_field = search (sendable, crosses, Event_field) depth 60 fits 20000

module _ (L : RattleType) (g : Ghosts L.Denot) where
  pub Pass_send : IsSend (Pass.the_row L g)
  Pass_send = search (sendable, crosses, PassEntry_field, share.the_send) depth 60 fits 20000

pub Traced_send : (K L : RattleType) (k : Keep.Ghosts K.Denot) (g : Ghosts L.Denot) → IsSend K →
    IsSend (Traced.the_row Core.the_row K L Plan.the_row planned.ghosts k g)
Traced_send K L k g s = search (sendable, crosses, Core_send, Event_field, book.the_send, share.the_send) depth 60 fits 20000

-- threads may share the lock over a core, where its keeper may cross
pub Kept_sync : (K L : RattleType) (k : Keep.Ghosts K.Denot) (g : Ghosts L.Denot) → IsSend K →
    IsSync (Broker.the_row Core.the_row K L Plan.the_row planned.ghosts k g)
Kept_sync K L k g s = search (sendable, crosses, Traced_send) depth 60 fits 20000

-- and the one over a core that keeps nothing
pub Broker_sync : (L : RattleType) (g : Ghosts L.Denot) →
    IsSync (Broker.the_row Core.the_row NoKeep.the_row L Plan.the_row planned.ghosts kept.ghosts g)
Broker_sync L g = Kept_sync NoKeep.the_row L kept.ghosts g NoKeep_send
