use Rattle.std.proofs.Common.{◌≡◌, ◌++◌}
use Rattle.std.specs.Vec.Iter.{into_iter_items}
use Rattle.jm_scenario.specs.Items.{calls_of}
use Rattle.jm_scenario.proofs.outline.into_calls.Given as goal

-- the calls so far, and those among the other items, are those of all
abbrev pub invariant-loop-item : goal.invariant-loop-item
invariant-loop-item l = l.calls.items ++ calls_of (into_iter_items l.item-iterator) ≡ calls_of l.fn.items.items
