use Rattle.std.proofs.Common.{◌≡◌, refl, true}
use Rattle.std.proofs.lemmas.Result.{err_from_is_err_and}
use Rattle.jm_dest.specs.declared.destination.Destination.TheVariants.{Queue}
use Rattle.jm_machine.specs.Machine.{may_begin, standing_as}
use Rattle.jm_queues.specs.Queues.{rows_in}
use Rattle.jm_plans.proofs.Fits.{state_from, create_refused}
use Rattle.jm_plans.proofs.Planned.{of_parts, queue_created}
use Rattle.jm_plans.proofs.state.CoreState.plan_consumer_of.Goals as goal

pub returns-in_err-source : goal.returns-in_err-source
returns-in_err-source c = λ no_local.
    let p = err_from_is_err_and c.from_residual.result c.from_residual.ensures.1 in
    let h = c.in_err-source.ensures in
    let i = c.self.inside in
    let state = state_from i.opening i.limit i.sessions.life i.sessions.consumers i.subs.list i.stations.list (rows_in i.queues) i.stations.next_place in
    rw (p.1, p.2, h.life, h.consumers, ← c.self.view_is) (refl {a = state}, create_refused state c.args.session.now c.args.id (Queue c.args.queue.now) c.args.selector.now no_local c.in_err-source.field-0.0 h.illegal h.refused)

pub returns : goal.returns
returns c = λ no_local.
    let h = c.in_ok-source.ensures in
    let n = c.prepare_create_of.new in
    let i = c.self.inside in
    let p = of_parts i.opening i.limit n.sessions i.subs i.stations i.queues in
    let begins : may_begin n.sessions.life n.sessions.consumers c.args.session.now c.args.id ≡ true = rw (h.life, h.consumers) h.begins in
    rw h.source (
      rw (h.life, h.consumers, ← c.self.view_is) refl,
      queue_created p c.args.session.now c.args.id c.args.queue.now c.args.selector.now (standing_as c.args.selector.now) no_local begins h.valid refl h.room,
    )
