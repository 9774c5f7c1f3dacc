use Rattle.jm_keep_law.proofs.Settled.{settle_loses}
use Rattle.jm_keep_law.proofs.law.law_settle.Goals as goal

pub returns : goal.returns
returns c = settle_loses
