use Rattle.std.proofs.Common.{refl}
use Rattle.jm_plans.specs.Provider.{state_of}
use Rattle.jm_plans.proofs.Planned.{of_parts, stopped}
use Rattle.jm_plans.proofs.state.CoreState.install_stop.Goals as goal

pub returns : goal.returns
returns c =
    let m = c.make_stop.ensures in
    let i = c.self.inside in
    λ who call h. stopped c.args.self.now who call c.args.id (state_of (of_parts i.opening i.limit c.make_stop.new.sessions i.subs i.stations i.queues)) h (rw (m.life, m.consumers, ← c.self.view_is) refl)
