use mathlib.Core.List.{List, [], ◌∷◌}
use Prim.Native.Nat.{ℕ}
use denote.Exit.{yes}
use denote.Param.{param}
use denote.Param.Send.{IsSend, IsSync, arg_send, arg_sync, param_send, param_sync, sendable}
use denote.Param.SendFields.{as_row_send}
use denote.RattleType.{RattleType}
use denote.Ref.{NamedLft, ShrRef}
use denote.Struct.Field.{u64-field}
use denote.Struct.Tuple.{TupleAt}
use Rattle.std.proofs.Crossing.{crosses}
use Rattle.std.specs.contracts.alloc.Global as Global
use Rattle.std.specs.declared.sync.ledger.Ledger.{Ghosts}
use Rattle.jm_base.proofs.list.List.TheSendSync as list
use Rattle.jm_sends.proofs.Sent.{Message_send}
use Rattle.jm_broker_sends.proofs.Sent.{Broker_sync, Pass_send, SessionId_field, Trace_send}
use Rattle.jm_dest.specs.contracts.number.Number as Number
use Rattle.jm_header.specs.contracts.content.Sender as Sender
use Rattle.jm_tx.specs.contracts.buffer.Buffer as Buffer
use Rattle.jm_tx.specs.contracts.half.SessionHalf as SessionHalf
use Rattle.stress.specs.contracts.others.Others as Others
use Rattle.stress.specs.contracts.rounds.Shift as Shift
use Rattle.stress.specs.contracts.worker.Worker as Worker
use Rattle.stress.proofs.rounds.work_all.Goals as goal

Number_send : IsSend Number.the_row
Number_send = search (sendable, crosses) depth 20

Sender_field : IsSend (Sender.the_field).row
Sender_field = search (sendable, crosses, Number_send, SessionId_field) depth 60 fits 20000

Buffer_field : IsSend (Buffer.the_field).row
Buffer_field = search (sendable, crosses, list.the_send, Message_send, Sender_field) depth 60 fits 20000

SessionHalf_send : IsSend SessionHalf.the_row
SessionHalf_send = search (sendable, crosses, Buffer_field) depth 60 fits 20000

Worker_field : IsSend (Worker.the_field).row
Worker_field = search (sendable, crosses, SessionHalf_send, Trace_send) depth 60 fits 20000

Global_sync : IsSync Global.the_row
Global_sync = search (sendable, crosses) depth 20

Others_sync : IsSync Others.the_row
Others_sync = search (sendable, crosses) depth 60 fits 20000

Others_sync_field : IsSync (Others.the_field).row
Others_sync_field = search (sendable, crosses) depth 60 fits 20000

Number_sync : IsSync (u64-field).row
Number_sync = search (sendable, crosses) depth 20

-- a closure over references may be shared by threads
closure_sync : (ν : List ℕ) (a b c d e : NamedLft) (R A B O N : RattleType) → IsSync R → IsSync A → IsSync B → IsSync O → IsSync N →
    IsSync (TupleAt ν (ShrRef a.mir a.lft R ∷ ShrRef b.mir b.lft A ∷ ShrRef c.mir c.lft B ∷ ShrRef d.mir d.lft O ∷ ShrRef e.mir e.lft N ∷ []))
closure_sync ν a b c d e R A B O N r s t o n = search (sendable, crosses) depth 60

module _ (L : RattleType) (g : Ghosts L.Denot) where
  Shift_field : IsSend (Shift.the_field L g).row
  Shift_field = search (sendable, crosses, Worker_field, Pass_send) depth 60 fits 20000

  Shift_send : IsSend (Shift.the_row L g)
  Shift_send = as_row_send (Shift.the_field L g) Shift_field

pub for_each_mut-requires-send-T : goal.for_each_mut-requires-send-T
for_each_mut-requires-send-T g c κs within = param_send 1 _ (arg_send _ yes _ (Shift_send (param 0 g.row.L) g.L.Ledger))

pub for_each_mut-requires-sync-F : goal.for_each_mut-requires-sync-F
for_each_mut-requires-sync-F g c κs within =
    param_sync 2 _ (arg_sync _ yes _ (closure_sync _ _ _ _ _ _ _ _ _ _ _ c.type_bounds.sync-R Global_sync
    (Broker_sync (param 0 g.row.L) g.L.Ledger) Others_sync Number_sync))
