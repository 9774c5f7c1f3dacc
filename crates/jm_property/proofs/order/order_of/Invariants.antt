use Rattle.std.proofs.Common.{take}
use Rattle.jm_property.specs.Order.{IsOrder}
use Rattle.jm_property.specs.Same.{names_of}
use Rattle.jm_property.proofs.order.order_of.Given as goal

abbrev pub invariant-loop-place : goal.invariant-loop-place
invariant-loop-place l = IsOrder (names_of (take l.place l.entries)) l.order.items
