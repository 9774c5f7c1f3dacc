use Rattle.std.proofs.Common.{◌≡◌, take}
use Rattle.std.specs.Prelude.{map}
use Rattle.jm_scenario.specs.Items.{kind_of}
use Rattle.jm_scenario.proofs.outline.item_kinds.Given as goal

-- the kinds of the items so far
abbrev pub invariant-loop-item : goal.invariant-loop-item
invariant-loop-item l = l.kinds.items ≡ map kind_of (take l.item-index l.items)
