use Rattle.std.proofs.Common.{ℕ, List}
use Rattle.jm_machine.specs.declared.consumers.Consumers.TheVariants.{OfSession}
use Rattle.jm_machine.specs.declared.state.PlacedRow.{PlacedRow}
use Rattle.jm_machine.specs.declared.state.Station.{Station}
use Rattle.jm_machine.specs.Machine.{State}
use Rattle.jm_plans.specs.Provider.{state_of}
use Rattle.jm_plans.proofs.Closing.{returned_stations, sound_returned}
use Rattle.jm_plans.proofs.Planned.{of_parts, rolled_back}
use Rattle.jm_plans.proofs.state.CoreState.install_rollback.Goals as goal

pub invariant_of-self : goal.invariant_of-self
invariant_of-self c =
    let m = c.make_give_back.ensures in
    let i = c.self.inside in (
      rw (m.keys, m.list, m.next_place) (sound_returned i.limit (OfSession c.args.id.now) i.sessions.consumers i.subs.list i.stations.keys i.stations.list i.stations.next_place c.self.invariant.0),
      rw (m.queue_place, m.next_place) c.self.invariant.1,
    )

pub returns : goal.returns
returns c =
    let m = c.make_give_back.ensures in
    let i = c.self.inside in
    let after : List Station → (List ℕ → List PlacedRow) → State =
    λ xs qs. record { opening = i.opening; limit = i.limit; life = i.sessions.life; consumers = i.sessions.consumers; stations = xs; queues = qs; next_place = i.stations.next_place }
    in
    λ who call h.
    rolled_back c.args.self.now who call c.args.id.now (state_of (of_parts i.opening i.limit i.sessions i.subs c.make_give_back.new.stations c.make_give_back.new.queues)) h
    (rw (m.list, m.next_place, ← c.self.view_is) (λ j. after (returned_stations (OfSession c.args.id.now) i.subs.list i.stations.list j) (m.queues j)))
