use Rattle.std.proofs.Common.{Some, None}
use Rattle.jm_selector.proofs.Asked.{read_as}
use Rattle.jm_selector.proofs.selector.Selector.literal.Goals as goal

pub returns-in-None : goal.returns-in-None
returns-in-None c = rw (← c.self.view_is) (read_as c.self.inside.text c.self.inside.tree None c.self.invariant.0 c.in-None.is)

pub returns-in-Some : goal.returns-in-Some
returns-in-Some c = rw (← c.self.view_is, ← read_as c.self.inside.text c.self.inside.tree (Some c.in-Some.tree) c.self.invariant.0 c.in-Some.is) c.literal_of.ensures
