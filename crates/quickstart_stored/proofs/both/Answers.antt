use denote.Exit.{yes}
use denote.Param.{param}
use denote.Param.Send.{arg_send, param_send}
use Rattle.jm_client.specs.contracts.plain.PlainBackend.TheImpl as backend
use Rattle.jm_client_sends.proofs.Shared.{Lent_send, Plain_sync}
use Rattle.quickstart_stored.proofs.both.Goals as goal

pub join-requires-send-F : goal.join-requires-send-F
join-requires-send-F g c κs within =
    let K = param 1 g.row.K in
    let plain = backend.ghosts K g.K.Keep backend.no_dict backend.no_dict in
    param_send 1 _ (arg_send _ yes _ (Lent_send _ _ _ (Plain_sync _ _ K g.K.Keep c.type_bounds.sync-R c.type_bounds.send-K plain)))
