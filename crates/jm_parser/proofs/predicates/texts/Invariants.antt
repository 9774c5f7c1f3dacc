use Rattle.std.proofs.Common.{◌≡◌, ◌-◌}
use Rattle.jm_tree.specs.FaultOrder.{texts, texts_from}
use Rattle.jm_parser.proofs.predicates.texts.Given as goal

abbrev pub invariant-loop-turn : goal.invariant-loop-turn
invariant-loop-turn l = texts l.fn.tokens ≡ texts_from (l._turn-end - l._turn) l.found.items l.tokens
