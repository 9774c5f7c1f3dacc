use Rattle.std.proofs.Common.{rules, arith}
use Rattle.std.proofs.lemmas.Grind.{common_steps}
use Rattle.jm_tree.specs.FaultOrder.{texts_from}
use Rattle.jm_lexer.proofs.Turns.{one_more}
use Rattle.jm_parser.proofs.predicates.texts.Goals as goal

pub loop-turn-preserved : goal.loop-turn-preserved
unfolding texts_from
loop-turn-preserved c =
    let e = one_more (λ n. texts_from n c.loop-turn.found.items c.loop-turn.tokens) _ c.loop-turn._turn c.loop-turn-test.true c.loop-turn.invariant in
    first_of (search rules, grind (arith, common_steps))
