use Rattle.std.proofs.Common.{◌≡◌, ◌<◌, length, subst, sym}
use Rattle.std.specs.List.{All}
use Rattle.jm_grouped.specs.Grouped.{indexes_of, items_of}
use Rattle.jm_grouped.specs.Order.{IsGroup, indexes_in}
use Rattle.jm_grouped.proofs.Groups.{indexes_are, indexes_within}
use Rattle.jm_grouped.proofs.grouped_list.GroupedList.indexes_of.Given.{Over}
use Rattle.jm_grouped.proofs.grouped_list.GroupedList.indexes_of.Goals as goal

-- the indexes of the slots that were found are those of all items that are equal to the value
found : (g : Over) (c : goal.After-group_of g) → indexes_in c.self.inside.slots.slots c.group_of.result.now ≡ indexes_of g.T.PartialEq.eq (items_of c.self.inside.items.items c.self.inside.slots.slots) c.args.value.now
found g c =
    let value = c.args.value.now in
    let group = c.group_of.result.now in
    let is : IsGroup g.T.PartialEq.eq c.self.inside.items.items c.self.inside.order.items value group =
    subst (λ xs. IsGroup g.T.PartialEq.eq xs c.self.inside.order.items value group) c.as_slice.ensures.value
    (subst (λ order. IsGroup g.T.PartialEq.eq c.as_slice.result.now order value group) c.as_slice-2.ensures.value c.group_of.ensures) in
    indexes_are g.T.PartialEq.eq c.self.inside.items.items c.self.inside.slots.slots c.self.inside.order.items c.self.invariant.even c.self.invariant.ordered value group is

pub returns-clause-indexes : goal.returns-clause-indexes
returns-clause-indexes g c = rw (← c.self.view_is) (found g c)

pub returns-clause-within : goal.returns-clause-within
returns-clause-within g c =
    let items = items_of c.self.inside.items.items c.self.inside.slots.slots in
    rw (← c.self.view_is) (subst (All (λ n. n < length items)) (sym (found g c)) (indexes_within g.T.PartialEq.eq c.args.value.now items))
