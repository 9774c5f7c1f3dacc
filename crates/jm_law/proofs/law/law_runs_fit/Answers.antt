use Rattle.jm_machine.proofs.Reaches.{owed_fits}
use Rattle.jm_law.proofs.law.law_runs_fit.Goals as goal

pub returns : goal.returns
returns c = owed_fits
