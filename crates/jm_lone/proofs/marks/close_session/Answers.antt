use Rattle.std.proofs.Common.{arith}
use Rattle.std.proofs.lemmas.List.Edits.{map_over_more}
use Rattle.std.proofs.lemmas.Grind.{common_steps}
use Rattle.jm_machine.specs.Life.{closed_where}
use Rattle.jm_lone.specs.Sessions.{is_session}
use Rattle.jm_lone.proofs.marks.close_session.Goals as goal

pub loop-session-preserved : goal.loop-session-preserved
loop-session-preserved c = grind (arith, common_steps, map_over_more (closed_where (is_session c.args.id.now)))
