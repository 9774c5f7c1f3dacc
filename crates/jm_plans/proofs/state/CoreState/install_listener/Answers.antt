use Rattle.std.proofs.Common.{refl}
use Rattle.jm_machine.specs.Machine.{listening_if}
use Rattle.jm_plans.specs.Provider.{state_of}
use Rattle.jm_plans.proofs.Listening.{keeps_listening, listener_set, sound_marked}
use Rattle.jm_plans.proofs.Planned.{of_parts}
use Rattle.jm_plans.proofs.state.CoreState.install_listener.Goals as goal

pub invariant_of-self : goal.invariant_of-self
invariant_of-self c =
    let i = c.self.inside in
    let s = c.args.session.now in (
      rw c.make_listener.ensures.consumers (sound_marked i.limit (listening_if s c.args.id c.args.on) (keeps_listening s c.args.id c.args.on) i.sessions.consumers i.subs.list i.stations.keys i.stations.list i.stations.next_place c.self.invariant.0),
      c.self.invariant.1,
    )

pub returns : goal.returns
returns c =
    let m = c.make_listener.ensures in
    let i = c.self.inside in
    λ who call h. listener_set c.args.self.now who call c.args.session.now c.args.id c.args.on (state_of (of_parts i.opening i.limit c.make_listener.new.sessions i.subs i.stations i.queues)) h (rw (m.life, m.consumers, ← c.self.view_is) refl)
