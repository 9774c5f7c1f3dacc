use Rattle.std.proofs.Common.{inr}
use Rattle.jm_runner.proofs.command.run_over.Goals as goal

pub returns-in-Ok-clause-ends : goal.returns-in-Ok-clause-ends
returns-in-Ok-clause-ends g c = inr (c.in-Ok.conn, c.in-Ok.ensures.opens, c.play_stored.result.left, c.play_stored.ensures.ends)
