use Rattle.std.proofs.Common.{ℕ, List, map}
use Rattle.jm_machine.specs.declared.consumers.Consumers.TheVariants.{OfSession}
use Rattle.jm_machine.specs.declared.state.PlacedRow.{PlacedRow}
use Rattle.jm_machine.specs.declared.state.Station.{Station}
use Rattle.jm_machine.specs.declared.call.Who.TheVariants.{Session}
use Rattle.jm_machine.specs.declared.call.Request.TheVariants.{CloseSession}
use Rattle.jm_machine.specs.Life.{life_after}
use Rattle.jm_machine.specs.Machine.{State, are_meant, closed_consumer}
use Rattle.jm_plans.specs.Provider.{state_of}
use Rattle.jm_parts.specs.Closing.{given_back}
use Rattle.jm_plans.proofs.Closing.{closed_stations, sound_ended, sound_returned}
use Rattle.jm_plans.proofs.Planned.{of_parts, session_closed}
use Rattle.jm_plans.proofs.state.CoreState.install_close_session.Goals as goal

pub invariant_of-self : goal.invariant_of-self
invariant_of-self c =
    let m = c.make_close_session.ensures in
    let g = c.make_give_back.ensures in
    let e = c.make_end.ensures in
    let i = c.self.inside in
    let returned = sound_returned i.limit (OfSession c.args.id.now) i.sessions.consumers i.subs.list i.stations.keys i.stations.list i.stations.next_place c.self.invariant.0 in (
      rw (m.consumers, e.subs, e.keys, e.list, e.next_place, g.keys, g.list, g.next_place)
          (sound_ended i.limit (OfSession c.args.id.now) c.attached-attached.result.now i.sessions.consumers i.subs.list i.stations.keys (given_back (OfSession c.args.id.now) i.stations.list) i.stations.next_place returned),
      rw (e.next_place, g.next_place, g.queue_place) c.self.invariant.1,
    )

pub returns : goal.returns
returns c =
    let m = c.make_close_session.ensures in
    let g = c.make_give_back.ensures in
    let e = c.make_end.ensures in
    let i = c.self.inside in
    let counted = rw m.consumers at c.attached-attached.ensures in
    let after : List Station → (List ℕ → List PlacedRow) → State = λ xs qs. record { opening = i.opening; limit = i.limit; life = life_after i.sessions.life (Session c.args.id.now) CloseSession; consumers = map (closed_consumer (are_meant (OfSession c.args.id.now))) i.sessions.consumers; stations = xs; queues = qs; next_place = i.stations.next_place } in
    λ who call h.
    session_closed c.args.self.now who call c.args.id.now (state_of (of_parts i.opening i.limit c.make_close_session.new.sessions c.make_end.new.subs c.make_end.new.stations c.make_give_back.new.queues)) h
    (rw (m.life, m.consumers, e.subs, e.list, e.next_place, g.keys, g.list, g.next_place, ← c.self.view_is)
    (λ j. after (closed_stations i.limit (OfSession c.args.id.now) c.attached-attached.result.now i.sessions.consumers i.subs.list i.stations.keys i.stations.list i.stations.next_place c.self.invariant.0 counted j) (g.queues j)))
