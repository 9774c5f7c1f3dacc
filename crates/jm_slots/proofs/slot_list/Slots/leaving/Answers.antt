use Rattle.std.proofs.Common.{arith, ap, length}
use Rattle.jm_slots.proofs.Items.{items-gaps}
use Rattle.jm_slots.proofs.slot_list.Slots.leaving.Goals as goal

pub returns-clause-eighth : goal.returns-clause-eighth
returns-clause-eighth g c =
    rw (← c.self.view_is) (omega (arith, items-gaps 0 c.self.inside.slots.items, ap length c.self.invariant.0, c.self.invariant.1, c.capacity.ensures, c.len.ensures, c.self.inside.gaps.ok))
