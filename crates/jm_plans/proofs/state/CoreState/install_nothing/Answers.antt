use Rattle.jm_plans.proofs.Listening.{idle_told}
use Rattle.jm_plans.proofs.state.CoreState.install_nothing.Goals as goal

pub returns : goal.returns
returns c = λ who call h. idle_told c.args.self.now who call h
