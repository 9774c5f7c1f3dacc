use Rattle.jm_why.proofs.Explained.{causes_explain}
use Rattle.jm_why.proofs.law.law_explained.Goals as goal

pub returns : goal.returns
returns c = causes_explain
