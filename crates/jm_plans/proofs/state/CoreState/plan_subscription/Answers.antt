use Rattle.std.proofs.Common.{◌≡◌, ap, refl, true, false}
use Rattle.std.proofs.lemmas.Result.{err_from_is_err_and}
use Rattle.jm_dest.specs.declared.destination.Destination.TheVariants.{Topic}
use Rattle.jm_dest.specs.declared.key.Key.TheVariants.{Own}
use Rattle.jm_machine.specs.Machine.{defined, may_begin}
use Rattle.jm_stations.specs.Stations.{Stations}
use Rattle.jm_queues.specs.Queues.{rows_in}
use Rattle.jm_plans.proofs.Fits.{state_from, create_refused}
use Rattle.jm_plans.proofs.Planned.{of_parts, own_created}
use Rattle.jm_plans.proofs.state.CoreState.plan_subscription.Goals as goal

pub returns-in_err-source : goal.returns-in_err-source
returns-in_err-source c =
    let p = err_from_is_err_and c.from_residual.result c.from_residual.ensures.1 in
    let h = c.in_err-source.ensures in
    let list = ap (λ (x : Stations). x.list) h.stations in
    let place = ap (λ (x : Stations). x.next_place) h.stations in
    let i = c.self.inside in
    rw (p.1, p.2, h.life, h.consumers, h.subs, list, place, ← c.self.view_is)
    (refl, create_refused (state_from i.opening i.limit i.sessions.life i.sessions.consumers i.subs.list i.stations.list (rows_in i.queues) i.stations.next_place) c.args.session.now c.args.id (Topic c.args.topic.now) c.args.selector.now c.args.no_local c.in_err-source.field-0.0 h.illegal h.refused)

pub returns : goal.returns
returns c =
    let h = c.in_ok-source.ensures in
    let n = c.prepare_create.new in
    let i = c.self.inside in
    let list = ap (λ (x : Stations). x.list) h.stations in
    let place = ap (λ (x : Stations). x.next_place) h.stations in
    let p = of_parts i.opening i.limit n.sessions n.subs n.stations i.queues in
    let begins : may_begin n.sessions.life n.sessions.consumers c.args.session.now c.args.id ≡ true = rw (h.life, h.consumers) h.begins in
    rw (h.source, h.decided) (
      rw (h.life, h.consumers, h.subs, list, place, ← c.self.view_is) refl,
      own_created p c.args.session.now c.args.id c.args.topic.now c.args.selector.now c.args.no_local (record { key = Own c.args.session.now c.args.id; definition = defined c.args.topic.now c.args.selector.now c.args.no_local false }) begins h.valid refl h.room h.subs_room h.key_room,
    )
