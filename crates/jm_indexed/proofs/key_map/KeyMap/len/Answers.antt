use Rattle.std.proofs.Common.{◌∙◌, arith, sym}
use Rattle.jm_indexed.proofs.Distinct.{are_distinct}
use Rattle.jm_indexed.proofs.Slotted.{entries_fewer, length-entries}
use Rattle.jm_indexed.proofs.key_map.KeyMap.len.Goals as goal

pub returns-clause-len : goal.returns-clause-len
returns-clause-len g c = rw (← c.self.view_is) (c.len.ensures ∙ sym (length-entries c.self.inside.keys.items c.self.inside.values.slots c.self.invariant.even))

pub returns-clause-once : goal.returns-clause-once
returns-clause-once g c =
    rw (← c.self.view_is) (are_distinct g.met.K.Ord.total c.self.inside.keys.items c.self.inside.values.slots c.self.inside.order.items c.self.invariant.ordered g.met.K.Ord.matches_eq)

pub returns-clause-small : goal.returns-clause-small
returns-clause-small g c = rw (← c.self.view_is) (omega (arith, entries_fewer c.self.inside.keys.items c.self.inside.values.slots, c.self.inside.keys.ok, c.self.inside.keys.small))
