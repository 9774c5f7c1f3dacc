use Rattle.jm_eval.proofs.Conditions.{negations}
use Rattle.jm_eval.proofs.laws.law_negations.Goals as goal

pub returns : goal.returns
returns c = negations
