use Rattle.std.proofs.Common.{refl}
use Rattle.jm_plans.specs.Provider.{state_of}
use Rattle.jm_plans.proofs.Planned.{of_parts, session_made}
use Rattle.jm_plans.proofs.state.CoreState.install_session.Goals as goal

pub returns : goal.returns
returns c =
    let m = c.make_session.ensures in
    let i = c.self.inside in
    λ who call h. session_made c.args.self.now who call c.args.id.now c.args.mode (state_of (of_parts i.opening i.limit c.make_session.new.sessions i.subs i.stations i.queues)) h (rw (m.life, m.consumers, ← c.self.view_is) refl)
