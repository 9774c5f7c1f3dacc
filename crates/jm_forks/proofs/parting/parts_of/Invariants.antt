use Rattle.std.proofs.Common.{◌≡◌, ◌++◌}
use Rattle.std.specs.Vec.Iter.{into_iter_items}
use Rattle.jm_forks.specs.Forks.{parts, parts_behind}
use Rattle.jm_forks.proofs.parting.parts_of.Given as goal

-- the parts so far, and those of the other items, are those of all
abbrev pub invariant-loop-item : goal.invariant-loop-item
invariant-loop-item l = l.parts.items ++ parts_behind l.forked (into_iter_items l.item-iterator) ≡ parts l.fn.items.items
