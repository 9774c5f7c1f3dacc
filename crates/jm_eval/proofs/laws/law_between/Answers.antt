use Rattle.jm_eval.proofs.Conditions.{between_is}
use Rattle.jm_eval.proofs.laws.law_between.Goals as goal

pub returns : goal.returns
returns c = between_is
