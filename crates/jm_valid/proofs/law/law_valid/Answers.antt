use Rattle.jm_valid.proofs.Valid.{kept_is_valid}
use Rattle.jm_valid.proofs.law.law_valid.Goals as goal

pub returns : goal.returns
returns c = kept_is_valid
