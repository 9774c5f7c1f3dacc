use Rattle.jm_valid.proofs.Changed.{changed_is_valid}
use Rattle.jm_valid.proofs.law.law_changed_valid.Goals as goal

pub returns : goal.returns
returns c = changed_is_valid
