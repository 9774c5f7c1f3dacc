use Rattle.std.proofs.Common.{◌≡◌, ◌++◌, drop}
use Rattle.jm_scenario.specs.Items.{calls_of}
use Rattle.jm_scenario.proofs.outline.copy_calls.Given as goal

-- the calls so far, and those among the other items, are those of all
abbrev pub invariant-loop-item : goal.invariant-loop-item
invariant-loop-item l = l.calls.items ++ calls_of (drop l.item-index l.items) ≡ calls_of l.items
