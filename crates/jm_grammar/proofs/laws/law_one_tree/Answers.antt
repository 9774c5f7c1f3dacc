use Rattle.jm_grammar.proofs.Agreement.{one_tree}
use Rattle.jm_grammar.proofs.laws.law_one_tree.Goals as goal

pub returns : goal.returns
returns c = one_tree
