use Rattle.std.proofs.Common.{inr}
use Rattle.jm_runner.proofs.command.run_over_on_threads.Goals as goal

pub returns-in-Ok-clause-ends : goal.returns-in-Ok-clause-ends
returns-in-Ok-clause-ends g c = inr (c.in-Ok.conn, c.in-Ok.ensures.opens, c.play_stored_on_threads.result.left, c.play_stored_on_threads.ensures.ends)
