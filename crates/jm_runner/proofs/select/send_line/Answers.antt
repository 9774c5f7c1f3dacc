use Rattle.std.proofs.Common.{append_assoc, rules}
use Rattle.jm_runner.proofs.select.send_line.Goals as goal

pub returns : goal.returns
returns c = simp append_assoc (search rules)
