-- A plan of a core may cross threads. One lemma a type, since a search for all of them at once runs out of steps; those of the
-- types that a core or an event holds too stand where these are shown to cross. Whoever has threads call cites it.
use denote.Enum.Declared as E
use denote.Param.Send.{IsSend, enum_send, sendable}
use Rattle.std.proofs.Crossing.{crosses}
use Rattle.jm_base.proofs.boxed.Boxed.TheSendSync as boxed
use Rattle.jm_sends.proofs.Sent.{Channel_send, Definition_send, Key_send, Selector_send, Message_send}
use Rattle.jm_broker_sends.proofs.Sent.{ClientId_send, ConsumerId_send, ConnectionId_send, SessionId_field}
use Rattle.jm_parts.specs.contracts.receive.Receiver as Receiver
use Rattle.jm_session.specs.contracts.source.Source as Source
use Rattle.jm_sub.specs.contracts.subs.Decision as Decision
use Rattle.jm_parts.specs.contracts.publish.Publication as Publication
use Rattle.jm_parts.specs.contracts.receive.Taking as Taking
use Rattle.jm_plans.specs.contracts.plan.Change as Change
use Rattle.jm_core.specs.contracts.planned.Plan as Plan

Source_send : IsSend Source.the_row
Source_send = search (sendable, crosses, Key_send, Selector_send) depth 60 fits 20000

Decision_send : IsSend Decision.the_row
Decision_send = search (sendable, crosses, boxed.the_send, Key_send, Definition_send, Channel_send) depth 60 fits 20000

Publication_send : IsSend Publication.the_row
Publication_send = search (sendable, crosses, Message_send) depth 60 fits 20000

Taking_send : IsSend Taking.the_row
Taking_send = search (sendable, crosses, boxed.the_send, Message_send) depth 60 fits 20000

Receiver_field : IsSend (Receiver.the_field).row
Receiver_field = search (sendable, crosses, SessionId_field, ConsumerId_send) depth 60 fits 20000

-- what the kinds of changes are made of
ruleset parts = (boxed.the_send, Key_send, ClientId_send, ConsumerId_send, ConnectionId_send, SessionId_field, Receiver_field, Source_send, Decision_send, Publication_send, Taking_send, sendable, crosses)

-- each kind of change by itself, since a search for all at once runs out of steps
Change_field : IsSend (Change.the_field).row
Change_field = enum_send (E.shape Change.the_type) (search parts depth 60 fits 20000, (search parts depth 60 fits 20000, (search parts depth 60 fits 20000, (search parts depth 60 fits 20000, (search parts depth 60 fits 20000, (search parts depth 60 fits 20000, (search parts depth 60 fits 20000, (search parts depth 60 fits 20000, (search parts depth 60 fits 20000, (search parts depth 60 fits 20000, (search parts depth 60 fits 20000, (search parts depth 60 fits 20000, (search parts depth 60 fits 20000, (search parts depth 60 fits 20000, (search parts depth 60 fits 20000, (search parts depth 60 fits 20000, (search parts depth 60 fits 20000, (search parts depth 60 fits 20000, (search parts depth 60 fits 20000, (search parts depth 60 fits 20000, (search parts depth 60 fits 20000, (search parts depth 60 fits 20000, tt))))))))))))))))))))))

-- a plan of a core may cross threads
pub Plan_send : IsSend Plan.the_row
Plan_send = search (Change_field, sendable, crosses) depth 60 fits 20000
