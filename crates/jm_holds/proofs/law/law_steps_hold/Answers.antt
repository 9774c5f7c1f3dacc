use Rattle.jm_holds.proofs.Steps.{steps_hold}
use Rattle.jm_holds.proofs.law.law_steps_hold.Goals as goal

pub returns : goal.returns
returns c = steps_hold
