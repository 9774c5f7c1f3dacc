use Rattle.jm_machine.proofs.Reaches.{runs_reach}
use Rattle.jm_law.proofs.law.law_reached.Goals as goal

pub returns : goal.returns
returns c = runs_reach
