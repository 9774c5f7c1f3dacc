use Rattle.jm_plans.specs.Provider.{state_of}
use Rattle.jm_queues.specs.Queues.{rows_in}
use Rattle.jm_plans.proofs.Closing.{acknowledged_stations, sound_acknowledged}
use Rattle.jm_plans.proofs.Fits.{state_from}
use Rattle.jm_plans.proofs.Planned.{of_parts, acknowledged, acknowledged_state}
use Rattle.jm_plans.proofs.state.CoreState.install_acknowledge.Goals as goal

pub invariant_of-self : goal.invariant_of-self
invariant_of-self c =
    let m = c.make_acknowledge.ensures in
    let i = c.self.inside in (
      rw (m.keys, m.list, m.next_place) (sound_acknowledged i.limit c.args.mode c.args.id.now i.sessions.consumers i.subs.list i.stations.keys i.stations.list i.stations.next_place c.self.invariant.0),
      rw (m.queue_place, m.next_place) c.self.invariant.1,
    )

pub returns : goal.returns
returns c =
    let m = c.make_acknowledge.ensures in
    let i = c.self.inside in
    let before = state_from i.opening i.limit i.sessions.life i.sessions.consumers i.subs.list i.stations.list (rows_in i.queues) i.stations.next_place in
    λ who call h.
    acknowledged c.args.self.now who call c.args.id.now c.args.mode (state_of (of_parts i.opening i.limit i.sessions i.subs c.make_acknowledge.new.stations c.make_acknowledge.new.queues)) h
    (rw (m.list, m.next_place, ← c.self.view_is) (acknowledged_state before c.args.mode c.args.id.now _ _ (acknowledged_stations c.args.mode c.args.id.now i.subs.list i.stations.list) m.queues))
