use mathlib.Core.List.{List, [], ◌∷◌}
use Prim.Native.Nat.{ℕ}
use denote.Exit.{yes}
use denote.Param.{param}
use denote.Param.Send.{IsSend, IsSync, arg_send, param_send, sendable}
use denote.Param.SendFields.{as_row_send}
use denote.RattleType.{RattleType}
use denote.Ref.{NamedLft, ShrRef}
use denote.Struct.Tuple.{TupleAt}
use Rattle.std.proofs.Crossing.{crosses}
use Rattle.std.specs.contracts.alloc.Global as Global
use Rattle.std.specs.declared.sync.ledger.Ledger.{Ghosts}
use Rattle.jm_broker_sends.proofs.Sent.{Broker_sync, Pass_send, Trace_send}
use Rattle.tests_threads.specs.contracts.callers.Caller as Caller
use Rattle.tests_threads.proofs.callers.both.Goals as goal

Global_send : IsSend Global.the_row
Global_send = search (sendable, crosses) depth 20

-- a closure over a reference, a value, a reference and a value may cross threads
closure_send : (ν : List ℕ) (a b : NamedLft) (R A B P : RattleType) → IsSync R → IsSend A → IsSync B → IsSend P →
    IsSend (TupleAt ν (ShrRef a.mir a.lft R ∷ A ∷ ShrRef b.mir b.lft B ∷ P ∷ []))
closure_send ν a b R A B P r s t p = search (sendable, crosses) depth 60

module _ (L : RattleType) (g : Ghosts L.Denot) where
  Caller_field : IsSend (Caller.the_field L g).row
  Caller_field = search (sendable, crosses, Trace_send, Pass_send) depth 60 fits 20000

  Caller_send : IsSend (Caller.the_row L g)
  Caller_send = as_row_send (Caller.the_field L g) Caller_field

pub join-requires-send-F : goal.join-requires-send-F
join-requires-send-F g c κs within =
    param_send 1 _ (arg_send _ yes _ (closure_send _ _ _ _ _ _ _ c.type_bounds.sync-R Global_send
    (Broker_sync (param 0 g.row.L) g.L.Ledger) (Pass_send (param 0 g.row.L) g.L.Ledger)))

pub join-requires-send-A : goal.join-requires-send-A
join-requires-send-A g c κs within = param_send 3 _ (arg_send _ yes _ (Caller_send (param 0 g.row.L) g.L.Ledger))
