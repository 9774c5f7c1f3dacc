use denote.Exit.{yes}
use denote.Param.{param}
use denote.Param.Send.{arg_send, param_send}
use Rattle.jm_client_audited.proofs.Sends.{Audited_sync}
use Rattle.jm_client_audited.specs.contracts.audited.AuditedBackend.TheImpl as backend
use Rattle.jm_client_sends.proofs.Shared.{Lent_send, NoKeep_send}
use Rattle.jm_keep.specs.contracts.keep.NoKeep as NoKeep
use Rattle.jm_keep.specs.contracts.keep.NoKeepKeep.TheImpl.{ghosts}
use Rattle.tests_audited.proofs.threads.both.Goals as goal

pub join-requires-send-F : goal.join-requires-send-F
join-requires-send-F g c κs within =
    let L = param 0 g.row.L in
    let audited = backend.ghosts NoKeep.the_row L ghosts backend.no_dict g.L.Ledger backend.no_dict backend.no_dict in
    param_send 1 _ (arg_send _ yes _ (Lent_send _ _ _ (Audited_sync _ _ NoKeep.the_row L ghosts g.L.Ledger c.type_bounds.sync-R NoKeep_send audited)))
