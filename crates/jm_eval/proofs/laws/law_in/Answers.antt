use Rattle.jm_eval.proofs.Conditions.{in_is}
use Rattle.jm_eval.proofs.laws.law_in.Goals as goal

pub returns : goal.returns
returns c = in_is
