use Rattle.std.proofs.Common.{List, ap}
use Rattle.jm_machine.specs.declared.state.Station.{Station}
use Rattle.jm_machine.specs.Machine.{State}
use Rattle.jm_parts.specs.Closing.{is_other}
use Rattle.jm_plans.specs.Provider.{state_of}
use Rattle.jm_queues.specs.Queues.{rows_in}
use Rattle.jm_parts.proofs.Kept.{kept_stations, sound_kept}
use Rattle.jm_plans.proofs.Planned.{of_parts, subscription_deleted}
use Rattle.jm_plans.proofs.state.CoreState.install_unsubscribe.Goals as goal

pub invariant_of-self : goal.invariant_of-self
invariant_of-self c =
    let m = c.make_delete.ensures in
    let i = c.self.inside in (
      rw (m.subs, m.keys, m.list, m.next_place) (sound_kept (is_other c.args.key.now) i.limit i.sessions.consumers i.subs.list i.stations.keys i.stations.list i.stations.next_place c.self.invariant.0),
      rw m.next_place c.self.invariant.1,
    )

pub returns : goal.returns
returns c =
    let m = c.make_delete.ensures in
    let i = c.self.inside in
    let after : List Station → State = λ xs. record { opening = i.opening; limit = i.limit; life = i.sessions.life; consumers = i.sessions.consumers; stations = xs; queues = rows_in i.queues; next_place = i.stations.next_place } in
    λ who call h.
    subscription_deleted c.args.self.now who call c.args.key.now (state_of (of_parts i.opening i.limit i.sessions c.make_delete.new.subs c.make_delete.new.stations i.queues)) h
    (rw (m.subs, m.list, m.next_place, ← c.self.view_is)
    (ap after (kept_stations (is_other c.args.key.now) i.limit i.sessions.consumers i.subs.list i.stations.keys i.stations.list i.stations.next_place c.self.invariant.0)))
