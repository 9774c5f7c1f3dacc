use Rattle.jm_refused.proofs.Steps.{steps_are_taken_out}
use Rattle.jm_refused.proofs.law.law_refused.Goals as goal

pub returns : goal.returns
returns c = steps_are_taken_out
