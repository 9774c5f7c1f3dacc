use Rattle.std.proofs.Common.{append_assoc, rules}
use Rattle.jm_scenario.specs.Lines.{delivery_head}
use Rattle.jm_scenario.proofs.lines.delivery_head.Goals as goal

pub returns : goal.returns
unfolding delivery_head
returns c = simp append_assoc (search rules)
