use Rattle.std.proofs.Common.{◌∙◌}
use Rattle.jm_sub.proofs.Listed.{position_listed}
use Rattle.jm_sub.proofs.subs.Subs.position.Goals as goal

pub returns : goal.returns
returns c = rw (← c.self.view_is) (c.index_of.ensures.index ∙ position_listed c.args.key.now c.self.inside.items.entries)
