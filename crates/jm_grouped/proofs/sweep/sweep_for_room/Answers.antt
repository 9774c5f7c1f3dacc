use Rattle.std.proofs.Common.{arith}
use Rattle.jm_slots.proofs.Items.{items-shorter}
use Rattle.jm_grouped.proofs.sweep.sweep_for_room.Goals as goal

pub overflow_sub-end : goal.overflow_sub-end
overflow_sub-end g c = omega (arith, c.len.ensures, c.end-then-lacks.ensures.end, items-shorter c.args.slots.now.slots)
