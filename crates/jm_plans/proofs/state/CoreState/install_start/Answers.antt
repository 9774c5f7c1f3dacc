use Rattle.std.proofs.Common.{refl}
use Rattle.jm_plans.specs.Provider.{state_of}
use Rattle.jm_plans.proofs.Planned.{of_parts, started}
use Rattle.jm_plans.proofs.state.CoreState.install_start.Goals as goal

pub returns : goal.returns
returns c =
    let m = c.make_start.ensures in
    let i = c.self.inside in
    λ who call h. started c.args.self.now who call c.args.id (state_of (of_parts i.opening i.limit c.make_start.new.sessions i.subs i.stations i.queues)) h (rw (m.life, m.consumers, ← c.self.view_is) refl)
