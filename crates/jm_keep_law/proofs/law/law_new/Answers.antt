use Rattle.jm_keep_law.proofs.New.{new_stores_nothing}
use Rattle.jm_keep_law.proofs.law.law_new.Goals as goal

pub returns : goal.returns
returns c = new_stores_nothing
