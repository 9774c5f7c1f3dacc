use Rattle.std.proofs.Common.{arith}
use Rattle.std.proofs.lemmas.List.Edits.{map_over_more}
use Rattle.std.proofs.lemmas.Grind.{common_steps}
use Rattle.jm_machine.specs.Machine.{busy_if}
use Rattle.jm_lone.proofs.marks.set_busy.Goals as goal

pub loop-consumer-preserved : goal.loop-consumer-preserved
loop-consumer-preserved c = grind (arith, common_steps, map_over_more (busy_if c.args.session.now c.args.id c.args.on))
