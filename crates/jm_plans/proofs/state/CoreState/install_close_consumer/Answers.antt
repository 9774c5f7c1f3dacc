use Rattle.std.proofs.Common.{List, ap, map}
use Rattle.jm_machine.specs.declared.consumers.Consumers.TheVariants.{One}
use Rattle.jm_machine.specs.declared.state.Station.{Station}
use Rattle.jm_machine.specs.Machine.{State, are_meant, closed_consumer}
use Rattle.jm_plans.specs.Provider.{state_of}
use Rattle.jm_queues.specs.Queues.{rows_in}
use Rattle.jm_plans.proofs.Closing.{ended_stations, sound_ended}
use Rattle.jm_plans.proofs.Planned.{of_parts, consumer_closed}
use Rattle.jm_plans.proofs.state.CoreState.install_close_consumer.Goals as goal

pub invariant_of-self : goal.invariant_of-self
invariant_of-self c =
    let m = c.make_close_consumer.ensures in
    let e = c.make_end.ensures in
    let i = c.self.inside in (
      rw (m.consumers, e.subs, e.keys, e.list, e.next_place) (sound_ended i.limit (One c.args.session.now c.args.id) c.attached-attached.result.now i.sessions.consumers i.subs.list i.stations.keys i.stations.list i.stations.next_place c.self.invariant.0),
      rw e.next_place c.self.invariant.1,
    )

pub returns : goal.returns
returns c =
    let m = c.make_close_consumer.ensures in
    let e = c.make_end.ensures in
    let i = c.self.inside in
    let counted = rw m.consumers at c.attached-attached.ensures in
    let after : List Station → State = λ xs. record { opening = i.opening; limit = i.limit; life = i.sessions.life; consumers = map (closed_consumer (are_meant (One c.args.session.now c.args.id))) i.sessions.consumers; stations = xs; queues = rows_in i.queues; next_place = i.stations.next_place } in
    λ who call h.
    consumer_closed c.args.self.now who call c.args.session.now c.args.id (state_of (of_parts i.opening i.limit c.make_close_consumer.new.sessions c.make_end.new.subs c.make_end.new.stations i.queues)) h
    (rw (m.life, m.consumers, e.subs, e.list, e.next_place, ← c.self.view_is)
    (ap after (ended_stations i.limit (One c.args.session.now c.args.id) c.attached-attached.result.now i.sessions.consumers i.subs.list i.stations.keys i.stations.list i.stations.next_place c.self.invariant.0 counted)))
