use mir.Syntax.{of_param}
use denote.Param.{param}
use denote.Ref.{NamedLft}
use Rattle.jm_client_sends.proofs.Shared.{Provider_sync}
use Rattle.jm_client_sends.proofs.shared_by.Goals as goal

pub crosses-requires-sync-T : goal.crosses-requires-sync-T
crosses-requires-sync-T g c κs within =
    let ends : NamedLft = record { mir = of_param 0; lft = κs.1.1.0 } in
    record { shared = (Provider_sync ends (param 0 g.row.R) (param 1 g.row.B) g.B.Backend c.type_bounds.sync-R c.type_bounds.send-B).shared }
