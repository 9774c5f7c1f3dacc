use Rattle.std.proofs.Common.{◌∙◌, sym}
use Rattle.jm_lane.proofs.Rolling.{filter_none}
use Rattle.jm_lane.proofs.lane.Lane.clear.Goals as goal

pub returns-clause-rows : goal.returns-clause-rows
returns-clause-rows c = c.clear.ensures.rows ∙ sym (filter_none c.args.self.now.rows)
