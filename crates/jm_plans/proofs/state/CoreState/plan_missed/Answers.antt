use Rattle.std.proofs.Common.{refl}
use Rattle.std.proofs.lemmas.Result.{err_from_is_err_and}
use Rattle.jm_queues.specs.Queues.{rows_in}
use Rattle.jm_plans.proofs.Fits.{missed_seen, state_from}
use Rattle.jm_plans.proofs.Planned.{missing_refused}
use Rattle.jm_plans.proofs.state.CoreState.plan_missed.Goals as goal

pub returns-in_err-key : goal.returns-in_err-key
returns-in_err-key c =
    let p = err_from_is_err_and c.from_residual.result c.from_residual.ensures.1 in
    let h = c.in_err-key.ensures in
    let i = c.self.inside in
    rw (p.1, p.2, ← c.self.view_is)
    (refl, missing_refused (state_from i.opening i.limit i.sessions.life i.sessions.consumers i.subs.list i.stations.list (rows_in i.queues) i.stations.next_place) c.args.session.now c.args.id c.in_err-key.field-0.0 h.illegal h.refused)

pub returns : goal.returns
returns c =
    let h = c.in_ok-key.ensures in
    let i = c.self.inside in
    let missed = rw (← c.self.invariant.0.same) at c.missed_under.ensures in
    rw (← c.self.view_is) (
      refl,
      record {
        session = c.args.session.now;
        consumer = c.args.id;
        sender = refl;
        asked = refl;
        allowed = h.ok;
        number = rw h.key (missed_seen i.opening i.limit i.sessions.life i.sessions.consumers i.subs.list i.stations.list (rows_in i.queues) i.stations.next_place c.in_ok-key.key.now c.missed_under.result c.self.invariant.0.number missed);
      },
    )
