use Rattle.jm_eval.proofs.Names.{settable_is_one}
use Rattle.jm_eval.proofs.laws.law_names.Goals as goal

pub returns : goal.returns
returns c = settable_is_one
