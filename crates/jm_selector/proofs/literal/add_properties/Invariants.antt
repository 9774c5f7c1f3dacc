use Rattle.std.proofs.Common.{◌≡◌, ◌++◌, take}
use Rattle.jm_selector.specs.Literals.{properties_literals}
use Rattle.jm_selector.proofs.literal.add_properties.Given as goal

abbrev pub invariant-loop-index : goal.invariant-loop-index
invariant-loop-index l = l.literals.items ≡ l.fn.literals.items ++ properties_literals (take l.index l.properties)
