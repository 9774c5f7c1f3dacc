use Rattle.std.proofs.Common.{arith}
use Rattle.jm_slots.proofs.Items.{items-shorter}
use Rattle.jm_gaps.proofs.gap_list.GapList.reserve.Goals as goal

pub overflow_sub-end : goal.overflow_sub-end
overflow_sub-end g c = omega (arith, items-shorter c.self.inside.slots.slots)
