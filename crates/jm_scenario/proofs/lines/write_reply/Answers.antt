use Rattle.std.proofs.Common.{append_assoc, rules}
use Rattle.jm_scenario.proofs.lines.write_reply.Goals as goal

pub returns : goal.returns
returns c = simp append_assoc (search rules)
