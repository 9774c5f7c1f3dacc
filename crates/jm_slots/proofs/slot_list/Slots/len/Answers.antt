use Rattle.std.proofs.Common.{arith, ap, length}
use Rattle.jm_slots.proofs.Items.{items-gaps}
use Rattle.jm_slots.proofs.slot_list.Slots.len.Goals as goal

pub overflow_sub-result : goal.overflow_sub-result
overflow_sub-result g c = omega (arith, c.end.ensures.end, ap (λ s. length s.slots) c.self.view_is, c.len.ensures, items-gaps 0 c.self.inside.slots.items, ap length c.self.invariant.0, c.self.inside.gaps.ok)

pub returns : goal.returns
returns g c =
    let all = c.end.ensures.end in
    rw (← c.self.view_is) (omega (arith, all, ap (λ s. length s.slots) c.self.view_is, c.len.ensures, items-gaps 0 c.self.inside.slots.items, ap length c.self.invariant.0, c.self.inside.gaps.ok))
