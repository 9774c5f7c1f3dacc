use Rattle.std.proofs.Common.{◌<◌, ◌∙◌, ap, arith, length}
use Rattle.std.proofs.lemmas.List.{get_or_read}
use Rattle.jm_indexed.proofs.Orders.{value_within}
use Rattle.jm_indexed.proofs.Slotted.{key_by, length-entries}
use Rattle.jm_indexed.proofs.key_map.KeyMap.key_at.Goals as goal

pub slot_of-requires : goal.slot_of-requires
slot_of-requires g c =
    omega (arith, c.requires, ap (λ m. length m.entries) c.self.view_is, length-entries c.self.inside.keys.items c.self.inside.values.slots c.self.invariant.even)

pub index-requires : goal.index-requires
index-requires g c = omega (arith, value_within c.self.inside.values.slots c.slot_of.result c.slot_of.ensures.there, c.self.invariant.even, c.self.inside.keys.ok)

pub returns : goal.returns
returns g c = λ d.
    let keys = c.self.inside.keys.items in
    let slots = c.self.inside.values.slots in
    let slot = c.slot_of.result in
    let within : slot < length keys = omega (arith, value_within slots slot c.slot_of.ensures.there, c.self.invariant.even) in
    rw (← c.self.view_is) (get_or_read keys slot c.index.result.now within c.index.ensures d ∙ key_by keys slots slot c.args.index d within c.slot_of.ensures.there c.slot_of.ensures.index)
