use Rattle.std.proofs.Common.{◌≡◌, ◌-◌, ◌+◌, ◌*◌, ◌∷◌}
use Rattle.jm_tree.specs.Sorts.{fits_number, fits_truth}
use Rattle.jm_tree.specs.FaultOrder.{below, product, sum, both, either, chain_from, unary, condition}
use Rattle.jm_tree.specs.Operators.{additive_of, multiplicative_of, and_of, or_of}
use Rattle.jm_tree.specs.declared.tree.Tree.TheVariants as e
use Rattle.jm_parser.proofs.rules.+rules.Given as goal

abbrev pub decreases-either : goal.decreases-either
decreases-either l = 16 * l.levels + 12

abbrev pub decreases-both : goal.decreases-both
decreases-both l = 16 * l.levels + 11

abbrev pub decreases-condition : goal.decreases-condition
decreases-condition l = 16 * l.levels + 10

abbrev pub decreases-tested : goal.decreases-tested
decreases-tested l = 16 * l.levels + 9

abbrev pub decreases-tail : goal.decreases-tail
decreases-tail l = 16 * l.levels + 8

abbrev pub decreases-negated_tail : goal.decreases-negated_tail
decreases-negated_tail l = 16 * l.levels + 7

abbrev pub decreases-between : goal.decreases-between
decreases-between l = 16 * l.levels + 6

abbrev pub decreases-compared : goal.decreases-compared
decreases-compared l = 16 * l.levels + 6

abbrev pub decreases-sum : goal.decreases-sum
decreases-sum l = 16 * l.levels + 5

abbrev pub decreases-product : goal.decreases-product
decreases-product l = 16 * l.levels + 4

abbrev pub decreases-unary : goal.decreases-unary
decreases-unary l = 16 * l.levels + 3

abbrev pub decreases-minus : goal.decreases-minus
decreases-minus l = 16 * l.levels + 2

abbrev pub decreases-signed : goal.decreases-signed
decreases-signed l = 16 * l.levels + 1

abbrev pub decreases-primary : goal.decreases-primary
decreases-primary l = 16 * l.levels + 2

abbrev pub invariant-product-loop-turn : goal.invariant-product-loop-turn
invariant-product-loop-turn l =
    product l.levels (below l.levels) l.fn.tokens ≡ chain_from multiplicative_of (λ o x. (o, x)) fits_number e.Product (unary l.levels (below l.levels)) (l._turn-end - l._turn) l.first.tree l.rest.items l.own l.tokens

abbrev pub invariant-sum-loop-turn : goal.invariant-sum-loop-turn
invariant-sum-loop-turn l =
    sum l.levels (below l.levels) l.fn.tokens ≡ chain_from additive_of (λ o x. (o, x)) fits_number e.Sum (product l.levels (below l.levels)) (l._turn-end - l._turn) l.first.tree l.rest.items l.own l.tokens

abbrev pub invariant-both-loop-turn : goal.invariant-both-loop-turn
invariant-both-loop-turn l =
    both l.levels (below l.levels) l.fn.tokens ≡ chain_from and_of (λ o x. x) fits_truth (λ x xs. e.All (x ∷ xs)) (condition l.levels (below l.levels)) (l._turn-end - l._turn) l.first.tree l.rest.items l.own l.tokens

abbrev pub invariant-either-loop-turn : goal.invariant-either-loop-turn
invariant-either-loop-turn l =
    either l.levels (below l.levels) l.fn.tokens ≡ chain_from or_of (λ o x. x) fits_truth (λ x xs. e.AnyOf (x ∷ xs)) (both l.levels (below l.levels)) (l._turn-end - l._turn) l.first.tree l.rest.items l.own l.tokens
