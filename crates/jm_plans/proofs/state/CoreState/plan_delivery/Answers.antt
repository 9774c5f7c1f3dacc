use Rattle.std.proofs.Common.{refl, sym}
use Rattle.std.proofs.lemmas.Result.{err_from_is_err_and}
use Rattle.jm_queues.specs.Queues.{rows_in}
use Rattle.jm_plans.proofs.Fits.{state_from, receive_refused}
use Rattle.jm_plans.proofs.state.CoreState.plan_delivery.Goals as goal

pub returns-in_err-mode : goal.returns-in_err-mode
returns-in_err-mode c =
    let p = err_from_is_err_and c.from_residual.result c.from_residual.ensures.1 in
    let h = c.in_err-mode.ensures in
    let i = c.self.inside in
    rw (p.1, p.2, ← c.self.view_is)
    (refl, receive_refused (state_from i.opening i.limit i.sessions.life i.sessions.consumers i.subs.list i.stations.list (rows_in i.queues) i.stations.next_place) c.args.session.now c.args.consumer c.args.now c.in_err-mode.field-0.0 h.illegal h.refused)
