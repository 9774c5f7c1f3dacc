use Rattle.jm_refused.proofs.Steps.{accepted_steps_stay}
use Rattle.jm_refused.proofs.law.law_accepted.Goals as goal

pub returns : goal.returns
returns c = accepted_steps_stay
