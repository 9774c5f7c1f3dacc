-- What a desk holds may cross threads. One lemma a type, since a search for all of them at once runs out of steps.
use denote.Param.Send.{IsSend, sendable}
use denote.Param.SendFields.{as_row_send}
use denote.RattleType.{RattleType}
use Rattle.std.proofs.Crossing.{crosses}
use Rattle.std.proofs.MapsCrossing as maps
use Rattle.std.specs.declared.sync.ledger.Ledger.{Ghosts}
use Rattle.jm_base.proofs.list.List.TheSendSync as list
use Rattle.jm_sends.proofs.Sent.{Message_send, Properties_send, Str_send}
use Rattle.jm_broker_sends.proofs.Sent.{Answer_send, Destination_field, Pass_send, Request_field, SessionId_field, Who_field}
use Rattle.jm_dest.specs.contracts.number.Number as Number
use Rattle.jm_header.specs.contracts.content.Sender as Sender
use Rattle.jm_header.specs.contracts.draft.Draft as Draft
use Rattle.jm_machine.specs.contracts.call.ClientCall as ClientCall
use Rattle.jm_tx.specs.contracts.buffer.Buffer as Buffer
use Rattle.jm_tx.specs.contracts.half.SessionHalf as SessionHalf
use Rattle.jm_seats.specs.contracts.desk.Desk as Desk
use Rattle.jm_seats.specs.contracts.seat.Seat as Seat

Number_send : IsSend Number.the_row
Number_send = search (sendable, crosses) depth 20

Sender_field : IsSend (Sender.the_field).row
Sender_field = search (sendable, crosses, Number_send, SessionId_field) depth 60 fits 20000

Buffer_field : IsSend (Buffer.the_field).row
Buffer_field = search (sendable, crosses, list.the_send, Message_send, Sender_field) depth 60 fits 20000

SessionHalf_send : IsSend SessionHalf.the_row
SessionHalf_send = search (sendable, crosses, Buffer_field) depth 60 fits 20000

Draft_send : IsSend Draft.the_row
Draft_send = search (sendable, crosses, maps.crosses, Properties_send, Str_send) depth 60 fits 20000

ClientCall_field : IsSend (ClientCall.the_field).row
ClientCall_field = search (sendable, crosses, Who_field, Request_field, SessionId_field, Draft_send, Destination_field) depth 60 fits 20000

module _ (L : RattleType) (g : Ghosts L.Denot) where
  Seat_send : IsSend (Seat.the_row L g)
  Seat_send = search (sendable, crosses, Sender_field, SessionHalf_send, Pass_send) depth 60 fits 20000

  Desk_field : IsSend (Desk.the_field L g).row
  Desk_field = search (sendable, crosses, Seat_send, ClientCall_field, Answer_send) depth 60 fits 20000

  -- a desk may cross threads
  pub Desk_send : IsSend (Desk.the_row L g)
  Desk_send = as_row_send (Desk.the_field L g) Desk_field
