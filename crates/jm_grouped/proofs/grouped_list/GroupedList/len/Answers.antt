use Rattle.std.proofs.Common.{◌∙◌, arith, sym}
use Rattle.jm_grouped.proofs.Taken.{items_of_fewer, length-items_of}
use Rattle.jm_grouped.proofs.grouped_list.GroupedList.len.Goals as goal

pub returns-clause-len : goal.returns-clause-len
returns-clause-len g c = rw (← c.self.view_is) (c.len.ensures ∙ sym (length-items_of c.self.inside.items.items c.self.inside.slots.slots c.self.invariant.even))

pub returns-clause-small : goal.returns-clause-small
returns-clause-small g c = rw (← c.self.view_is) (omega (arith, items_of_fewer c.self.inside.items.items c.self.inside.slots.slots, c.self.inside.items.ok, c.self.inside.items.small))
