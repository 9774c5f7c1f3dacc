use denote.Exit.{yes}
use denote.Param.Send.{arg_send, param_send}
use Rattle.jm_client.specs.contracts.plain.PlainBackend.TheImpl as backend
use Rattle.jm_client_sends.proofs.Shared.{Lent_send, NoKeep_send, Plain_sync}
use Rattle.jm_keep.specs.contracts.keep.NoKeep as NoKeep
use Rattle.jm_keep.specs.contracts.keep.NoKeepKeep.TheImpl.{ghosts}
use Rattle.quickstart_threads.proofs.both.Goals as goal

pub join-requires-send-F : goal.join-requires-send-F
join-requires-send-F g c κs within =
    let plain = backend.ghosts NoKeep.the_row ghosts backend.no_dict backend.no_dict in
    param_send 1 _ (arg_send _ yes _ (Lent_send _ _ _ (Plain_sync _ _ NoKeep.the_row ghosts c.type_bounds.sync-R NoKeep_send plain)))
