use Rattle.jm_holds.proofs.Steps.{new_holds}
use Rattle.jm_holds.proofs.law.law_new_holds.Goals as goal

pub returns : goal.returns
returns c = new_holds
