use Rattle.std.proofs.Common.{◌≡◌, None, take}
use Rattle.jm_property.specs.Properties.{value_of}
use Rattle.jm_property.proofs.order.find_in_turn.Given as goal

abbrev pub invariant-loop-place : goal.invariant-loop-place
invariant-loop-place l = value_of (take l.place l.entries) l.name ≡ None
