use Rattle.jm_law.proofs.RunSteps.{runs_are_steps}
use Rattle.jm_law.proofs.law.law_runs_are_steps.Goals as goal

pub returns : goal.returns
returns c = runs_are_steps
