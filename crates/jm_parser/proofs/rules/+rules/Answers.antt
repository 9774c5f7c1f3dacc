use Rattle.std.proofs.Common.{◌≡◌, ◌∷◌, Some, None, arith, sym, ◌∙◌}
use Rattle.std.proofs.lemmas.Grind.{common_steps}
use Rattle.jm_tree.specs.Sorts.{fits_number, fits_truth}
use Rattle.jm_tree.specs.Input.{operator_at}
use Rattle.jm_tree.specs.FaultOrder.{below, product, both, unary, condition}
use Rattle.jm_tree.specs.Operators.{additive_of, multiplicative_of, and_of, or_of}
use Rattle.jm_lexer.specs.declared.token.Mark.TheVariants as m
use Rattle.jm_tree.specs.declared.tree.Tree.TheVariants as e
use Rattle.jm_parser.proofs.Chains.{reads_same, turn_stop, turn_step, turn_fail, turn_end, joint_none, joint_some, joint_after, and_same, or_same}
use Rattle.jm_parser.proofs.Tails.{tail_compared}
use Rattle.jm_parser.proofs.rules.+rules.Goals as goal

pub tail-returns-in-Some : goal.tail-returns-in-Some
tail-returns-in-Some t c = reads_same _ _ _ _ (tail_compared _ _ _ _ _ _ _ (sym c.in-Some.ensures)) c.compared.ensures

pub product-returns-in_default : goal.product-returns-in_default
product-returns-in_default t c =
    let none : operator_at multiplicative_of c.loop-turn.tokens ≡ None = sym c.in_default.ensures.found in
    let h = turn_stop multiplicative_of (λ o x. (o, x)) fits_number e.Product (unary c.args.levels (below c.args.levels)) _ c.left-turn-end.result c.loop-turn._turn _ c.loop-turn.rest.items c.loop-turn.own c.loop-turn.tokens c.loop-turn-test.true c.loop-turn.invariant _ none (sym c.eat_multiplicative.ensures.after) in
    reads_same _ _ _ _ h c.settle_product.ensures

pub product-returns-in_err-tree-2 : goal.product-returns-in_err-tree-2
product-returns-in_err-tree-2 t c =
    let some : operator_at multiplicative_of c.loop-turn.tokens ≡ Some c.in-Some.operator = sym c.in-Some.ensures.found in
    let h = turn_fail multiplicative_of (λ o x. (o, x)) fits_number e.Product (unary c.args.levels (below c.args.levels)) _ c.left-turn-end.result c.loop-turn._turn _ c.loop-turn.rest.items c.loop-turn.own c.loop-turn.tokens c.loop-turn-test.true c.loop-turn.invariant _ _ c.in_err-tree-2.field-0.0 some (sym c.eat_multiplicative.ensures.after) in
    grind (arith, common_steps)

pub product-loop-turn-preserved : goal.product-loop-turn-preserved
product-loop-turn-preserved t c =
    let some : operator_at multiplicative_of c.loop-turn.tokens ≡ Some c.in-Some.operator = sym c.in-Some.ensures.found in
    let h = turn_step multiplicative_of (λ o x. (o, x)) fits_number e.Product (unary c.args.levels (below c.args.levels)) _ c.left-turn-end.result c.loop-turn._turn _ c.loop-turn.rest.items c.loop-turn.own c.loop-turn.tokens c.loop-turn-test.true c.loop-turn.invariant _ _ _ _ some (sym c.eat_multiplicative.ensures.after) c.in_ok-tree-2.ensures in
    grind (arith, common_steps)

pub product-returns : goal.product-returns
product-returns t c =
    let h = turn_end multiplicative_of (λ o x. (o, x)) fits_number e.Product (unary c.args.levels (below c.args.levels)) _ c.left-turn-end.result c.loop-turn._turn _ c.loop-turn.rest.items c.loop-turn.own c.loop-turn.tokens c.loop-turn-test.false c.loop-turn.invariant in
    reads_same _ _ _ _ h c.settle_product-2.ensures

pub sum-returns-in_default : goal.sum-returns-in_default
sum-returns-in_default t c =
    let none : operator_at additive_of c.loop-turn.tokens ≡ None = sym c.in_default.ensures.found in
    let h = turn_stop additive_of (λ o x. (o, x)) fits_number e.Sum (product c.args.levels (below c.args.levels)) _ c.left-turn-end.result c.loop-turn._turn _ c.loop-turn.rest.items c.loop-turn.own c.loop-turn.tokens c.loop-turn-test.true c.loop-turn.invariant _ none (sym c.eat_additive.ensures.after) in
    reads_same _ _ _ _ h c.settle_sum.ensures

pub sum-returns-in_err-tree-2 : goal.sum-returns-in_err-tree-2
sum-returns-in_err-tree-2 t c =
    let some : operator_at additive_of c.loop-turn.tokens ≡ Some c.in-Some.operator = sym c.in-Some.ensures.found in
    let h = turn_fail additive_of (λ o x. (o, x)) fits_number e.Sum (product c.args.levels (below c.args.levels)) _ c.left-turn-end.result c.loop-turn._turn _ c.loop-turn.rest.items c.loop-turn.own c.loop-turn.tokens c.loop-turn-test.true c.loop-turn.invariant _ _ c.in_err-tree-2.field-0.0 some (sym c.eat_additive.ensures.after) in
    grind (arith, common_steps)

pub sum-loop-turn-preserved : goal.sum-loop-turn-preserved
sum-loop-turn-preserved t c =
    let some : operator_at additive_of c.loop-turn.tokens ≡ Some c.in-Some.operator = sym c.in-Some.ensures.found in
    let h = turn_step additive_of (λ o x. (o, x)) fits_number e.Sum (product c.args.levels (below c.args.levels)) _ c.left-turn-end.result c.loop-turn._turn _ c.loop-turn.rest.items c.loop-turn.own c.loop-turn.tokens c.loop-turn-test.true c.loop-turn.invariant _ _ _ _ some (sym c.eat_additive.ensures.after) c.in_ok-tree-2.ensures in
    grind (arith, common_steps)

pub sum-returns : goal.sum-returns
sum-returns t c =
    let h = turn_end additive_of (λ o x. (o, x)) fits_number e.Sum (product c.args.levels (below c.args.levels)) _ c.left-turn-end.result c.loop-turn._turn _ c.loop-turn.rest.items c.loop-turn.own c.loop-turn.tokens c.loop-turn-test.false c.loop-turn.invariant in
    reads_same _ _ _ _ h c.settle_sum-2.ensures

pub both-returns-then-not-eat : goal.both-returns-then-not-eat
both-returns-then-not-eat t c =
    let none = joint_none and_of m.And tt and_same c.loop-turn.tokens (cc) in
    let past = joint_after and_of m.And tt and_same c.loop-turn.tokens in
    let h = turn_stop and_of (λ o x. x) fits_truth (λ x xs. e.All (x ∷ xs)) (condition c.args.levels (below c.args.levels)) _ c.left-turn-end.result c.loop-turn._turn _ c.loop-turn.rest.items c.loop-turn.own c.loop-turn.tokens c.loop-turn-test.true c.loop-turn.invariant c.eat.new.self none (past ∙ sym c.eat.ensures.after) in
    reads_same _ _ _ _ h c.settle_all.ensures

pub both-returns-in_err-tree-2 : goal.both-returns-in_err-tree-2
both-returns-in_err-tree-2 t c =
    let some = joint_some and_of m.And tt and_same c.loop-turn.tokens (cc) in
    let past = joint_after and_of m.And tt and_same c.loop-turn.tokens in
    let h = turn_fail and_of (λ o x. x) fits_truth (λ x xs. e.All (x ∷ xs)) (condition c.args.levels (below c.args.levels)) _ c.left-turn-end.result c.loop-turn._turn _ c.loop-turn.rest.items c.loop-turn.own c.loop-turn.tokens c.loop-turn-test.true c.loop-turn.invariant tt c.eat.new.self c.in_err-tree-2.field-0.0 some (past ∙ sym c.eat.ensures.after) in
    grind (arith, common_steps)

pub both-loop-turn-preserved : goal.both-loop-turn-preserved
both-loop-turn-preserved t c =
    let some = joint_some and_of m.And tt and_same c.loop-turn.tokens (cc) in
    let past = joint_after and_of m.And tt and_same c.loop-turn.tokens in
    let h = turn_step and_of (λ o x. x) fits_truth (λ x xs. e.All (x ∷ xs)) (condition c.args.levels (below c.args.levels)) _ c.left-turn-end.result c.loop-turn._turn _ c.loop-turn.rest.items c.loop-turn.own c.loop-turn.tokens c.loop-turn-test.true c.loop-turn.invariant tt c.eat.new.self _ _ some (past ∙ sym c.eat.ensures.after) c.in_ok-tree-2.ensures in
    grind (arith, common_steps)

pub both-returns : goal.both-returns
both-returns t c =
    let h = turn_end and_of (λ o x. x) fits_truth (λ x xs. e.All (x ∷ xs)) (condition c.args.levels (below c.args.levels)) _ c.left-turn-end.result c.loop-turn._turn _ c.loop-turn.rest.items c.loop-turn.own c.loop-turn.tokens c.loop-turn-test.false c.loop-turn.invariant in
    reads_same _ _ _ _ h c.settle_all-2.ensures

pub either-returns-then-not-eat : goal.either-returns-then-not-eat
either-returns-then-not-eat t c =
    let none = joint_none or_of m.Or tt or_same c.loop-turn.tokens (cc) in
    let past = joint_after or_of m.Or tt or_same c.loop-turn.tokens in
    let h = turn_stop or_of (λ o x. x) fits_truth (λ x xs. e.AnyOf (x ∷ xs)) (both c.args.levels (below c.args.levels)) _ c.left-turn-end.result c.loop-turn._turn _ c.loop-turn.rest.items c.loop-turn.own c.loop-turn.tokens c.loop-turn-test.true c.loop-turn.invariant c.eat.new.self none (past ∙ sym c.eat.ensures.after) in
    reads_same _ _ _ _ h c.settle_any.ensures

pub either-returns-in_err-tree-2 : goal.either-returns-in_err-tree-2
either-returns-in_err-tree-2 t c =
    let some = joint_some or_of m.Or tt or_same c.loop-turn.tokens (cc) in
    let past = joint_after or_of m.Or tt or_same c.loop-turn.tokens in
    let h = turn_fail or_of (λ o x. x) fits_truth (λ x xs. e.AnyOf (x ∷ xs)) (both c.args.levels (below c.args.levels)) _ c.left-turn-end.result c.loop-turn._turn _ c.loop-turn.rest.items c.loop-turn.own c.loop-turn.tokens c.loop-turn-test.true c.loop-turn.invariant tt c.eat.new.self c.in_err-tree-2.field-0.0 some (past ∙ sym c.eat.ensures.after) in
    grind (arith, common_steps)

pub either-loop-turn-preserved : goal.either-loop-turn-preserved
either-loop-turn-preserved t c =
    let some = joint_some or_of m.Or tt or_same c.loop-turn.tokens (cc) in
    let past = joint_after or_of m.Or tt or_same c.loop-turn.tokens in
    let h = turn_step or_of (λ o x. x) fits_truth (λ x xs. e.AnyOf (x ∷ xs)) (both c.args.levels (below c.args.levels)) _ c.left-turn-end.result c.loop-turn._turn _ c.loop-turn.rest.items c.loop-turn.own c.loop-turn.tokens c.loop-turn-test.true c.loop-turn.invariant tt c.eat.new.self _ _ some (past ∙ sym c.eat.ensures.after) c.in_ok-tree-2.ensures in
    grind (arith, common_steps)

pub either-returns : goal.either-returns
either-returns t c =
    let h = turn_end or_of (λ o x. x) fits_truth (λ x xs. e.AnyOf (x ∷ xs)) (both c.args.levels (below c.args.levels)) _ c.left-turn-end.result c.loop-turn._turn _ c.loop-turn.rest.items c.loop-turn.own c.loop-turn.tokens c.loop-turn-test.false c.loop-turn.invariant in
    reads_same _ _ _ _ h c.settle_any-2.ensures
