use denote.Exit.{yes}
use denote.Param.{param}
use denote.Param.Send.{arg_send, param_send}
use Rattle.jm_seats.proofs.Sends.{Desk_send}
use Rattle.jm_seats.proofs.stretch.work_all.Goals as goal

pub for_each_mut-requires-send-T : goal.for_each_mut-requires-send-T
for_each_mut-requires-send-T g c κs within = param_send 1 _ (arg_send _ yes _ (Desk_send (param 2 g.row.L) g.L.Ledger))
