use Rattle.std.proofs.Common.{arith}
use Rattle.std.proofs.lemmas.List.Edits.{map_over_more}
use Rattle.std.proofs.lemmas.Grind.{common_steps}
use Rattle.jm_machine.specs.Machine.{are_meant, closed_consumer}
use Rattle.jm_lone.proofs.marks.close_consumers.Goals as goal

pub loop-consumer-preserved : goal.loop-consumer-preserved
loop-consumer-preserved c = grind (arith, common_steps, map_over_more (closed_consumer (are_meant c.args.which.now)))
