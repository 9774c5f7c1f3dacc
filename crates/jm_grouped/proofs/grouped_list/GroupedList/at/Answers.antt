use Rattle.std.proofs.Common.{◌<◌, ap, arith, length}
use Rattle.jm_grouped.proofs.Taken.{item_got, length-items_of, taken_within}
use Rattle.jm_grouped.proofs.grouped_list.GroupedList.at.Goals as goal

pub slot_of-requires : goal.slot_of-requires
slot_of-requires g c =
    omega (arith, c.requires, ap (λ l. length l.items) c.self.view_is, length-items_of c.self.inside.items.items c.self.inside.slots.slots c.self.invariant.even)

pub index-requires : goal.index-requires
index-requires g c = omega (arith, taken_within c.self.inside.slots.slots c.slot_of.result c.slot_of.ensures.there, c.self.invariant.even, c.self.inside.items.ok)

pub returns : goal.returns
returns g c =
    let items = c.self.inside.items.items in
    let slots = c.self.inside.slots.slots in
    let slot = c.slot_of.result in
    let within : slot < length items = omega (arith, taken_within slots slot c.slot_of.ensures.there, c.self.invariant.even) in
    rw (← c.self.view_is) (item_got items slots slot c.args.index c.index.result.now (record { within = within; taken = c.slot_of.ensures.there; index_is = c.slot_of.ensures.index }) c.self.invariant.even c.index.ensures)
