use Rattle.std.proofs.Common.{arith, ap, length}
use Rattle.jm_slots.proofs.Items.{items-gaps}
use Rattle.jm_slots.proofs.slot_list.Slots.clear.Goals as goal

pub returns-clause-leaving : goal.returns-clause-leaving
returns-clause-leaving g c =
    rw (← c.self.view_is) (omega (arith, items-gaps 0 c.self.inside.slots.items, ap length c.self.invariant.0, c.clear-2.ensures.capacity, c.clear-2.ensures.len, c.self.inside.slots.ok, c.self.inside.gaps.ok))
