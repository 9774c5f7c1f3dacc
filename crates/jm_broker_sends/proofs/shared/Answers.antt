use denote.Param.{param}
use Rattle.jm_broker_sends.proofs.Sent.{Kept_sync}
use Rattle.jm_broker_sends.proofs.shared.Goals as goal

pub looked_at-requires-sync-T : goal.looked_at-requires-sync-T
looked_at-requires-sync-T g c κs within =
    record { shared = (Kept_sync (param 0 g.row.K) (param 1 g.row.L) g.K.Keep g.L.Ledger c.type_bounds.send-K).shared }
