use Rattle.std.proofs.Common.{◌≡◌, map, take}
use Rattle.std.specs.List.{filter}
use Rattle.jm_slots.specs.Items.{items_before}
use Rattle.jm_indexed.specs.Order.{has_value}
use Rattle.jm_indexed.proofs.copy.copy_order.Given as goal

abbrev pub invariant-loop-slot : goal.invariant-loop-slot
invariant-loop-slot g l = l.copy.items ≡ map (items_before l.values.slots) (filter (has_value l.values.slots) (take l.slot-index l.order))
