use Rattle.std.proofs.Common.{refl}
use Rattle.std.proofs.lemmas.Result.{err_from_is_err_and}
use Rattle.jm_queues.specs.Queues.{rows_in}
use Rattle.jm_plans.proofs.Fits.{state_from}
use Rattle.jm_plans.proofs.Listening.{take_refused}
use Rattle.jm_plans.proofs.state.CoreState.plan_take.Goals as goal

pub returns-in_err-source : goal.returns-in_err-source
returns-in_err-source c =
    let p = err_from_is_err_and c.from_residual.result c.from_residual.ensures.1 in
    let h = c.in_err-source.ensures in
    let i = c.self.inside in
    rw (p.1, p.2, ← c.self.view_is)
    (refl, take_refused (state_from i.opening i.limit i.sessions.life i.sessions.consumers i.subs.list i.stations.list (rows_in i.queues) i.stations.next_place) c.args.session.now c.args.consumer c.args.now c.in_err-source.field-0.0 h.illegal h.refused)
