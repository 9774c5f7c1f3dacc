use Rattle.jm_reopened.proofs.Reopened.{reopened_is_given}
use Rattle.jm_reopened.proofs.law.law_reopened.Goals as goal

pub returns : goal.returns
returns c = reopened_is_given
