use Rattle.std.proofs.Common.{◌≡◌, ◌≤◌, drop}
use Rattle.jm_lexer.specs.Words.{value_from}
use Rattle.jm_lexer.specs.Words.{limit}
use Rattle.jm_lexer.proofs.words.value_of.Given as goal

abbrev pub invariant-loop-b : goal.invariant-loop-b
invariant-loop-b l = (value_from l.base 0 l.digits ≡ value_from l.base l.value (drop l.b-index l.digits)) × (l.value ≤ limit)
