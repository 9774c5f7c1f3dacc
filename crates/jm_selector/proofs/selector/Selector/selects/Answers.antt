use Rattle.jm_selector.proofs.Selectors.{selects_there}
use Rattle.jm_selector.proofs.selector.Selector.selects.Goals as goal

pub returns : goal.returns
returns c = rw (← c.self.view_is) (selects_there c.self.inside.text c.args.message.now c.self.inside.tree c.selects.result c.self.invariant.0 c.selects.ensures)
