use mir.Syntax.{of_param}
use denote.Param.{param}
use denote.Ref.{NamedLft}
use Rattle.jm_client_audited.proofs.Sends.{Audited_sync}
use Rattle.jm_client_audited.specs.contracts.audited.AuditedBackend.TheImpl as backend
use Rattle.jm_client_audited.proofs.provider.shared_by.Goals as goal

pub crosses-requires-sync-T : goal.crosses-requires-sync-T
crosses-requires-sync-T g c κs within =
    let ends : NamedLft = record { mir = of_param 0; lft = κs.1.1.0 } in
    let K = param 1 g.row.K in
    let L = param 2 g.row.L in
    let audited = backend.ghosts K L g.K.Keep backend.no_dict g.L.Ledger backend.no_dict backend.no_dict in
    record { shared = (Audited_sync ends (param 0 g.row.R) K L g.K.Keep g.L.Ledger c.type_bounds.sync-R c.type_bounds.send-K audited).shared }
