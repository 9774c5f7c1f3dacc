use Rattle.jm_law.proofs.Unshared.{isolation}
use Rattle.jm_law.proofs.law.law_isolation.Goals as goal

pub returns : goal.returns
returns c = isolation
