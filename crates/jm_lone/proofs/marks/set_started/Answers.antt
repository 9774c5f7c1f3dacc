use Rattle.std.proofs.Common.{arith}
use Rattle.std.proofs.lemmas.List.Edits.{map_over_more}
use Rattle.std.proofs.lemmas.Grind.{common_steps}
use Rattle.jm_machine.specs.Life.{started_if}
use Rattle.jm_lone.proofs.marks.set_started.Goals as goal

pub loop-connection-preserved : goal.loop-connection-preserved
loop-connection-preserved c = grind (arith, common_steps, map_over_more (started_if c.args.id c.args.is_started))
