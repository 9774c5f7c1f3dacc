use Rattle.jm_keep_law.proofs.Done.{done_loses}
use Rattle.jm_keep_law.proofs.law.law_done.Goals as goal

pub returns : goal.returns
returns c = done_loses
