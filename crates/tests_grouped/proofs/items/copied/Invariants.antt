use Rattle.std.proofs.Common.{◌≡◌, take}
use Rattle.tests_grouped.proofs.items.copied.Given as goal

abbrev pub invariant-loop-index : goal.invariant-loop-index
invariant-loop-index l = l.items.items ≡ take l.index l.list.items
