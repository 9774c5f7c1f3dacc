use Rattle.jm_plans.proofs.Planned.{missing_told}
use Rattle.jm_plans.proofs.state.CoreState.install_missed.Goals as goal

pub returns : goal.returns
returns c = λ who call h. missing_told c.args.self.now who call c.args.number h
