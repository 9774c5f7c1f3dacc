use Rattle.jm_law.proofs.Unshared.{isolation_of_runs}
use Rattle.jm_law.proofs.law.law_isolation_of_runs.Goals as goal

pub returns : goal.returns
returns c = isolation_of_runs
