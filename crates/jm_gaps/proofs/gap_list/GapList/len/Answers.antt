use Rattle.std.proofs.Common.{arith}
use Rattle.jm_slots.proofs.Items.{items-shorter}
use Rattle.jm_gaps.proofs.gap_list.GapList.len.Goals as goal

pub returns-clause-small : goal.returns-clause-small
returns-clause-small g c = rw (← c.self.view_is) (omega (arith, items-shorter c.self.inside.slots.slots, c.end-number.ensures.small))
