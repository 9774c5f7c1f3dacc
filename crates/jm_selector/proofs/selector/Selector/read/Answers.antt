use Rattle.jm_selector.proofs.Selectors.{not_refused}
use Rattle.jm_selector.proofs.selector.Selector.read.Goals as goal

pub returns-clause-valid : goal.returns-clause-valid
returns-clause-valid c = not_refused c.args.text.now c.in_ok-tree.tree c.in_ok-tree.ensures.found
