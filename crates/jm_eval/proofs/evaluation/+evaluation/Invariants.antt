-- Each call goes down the tree. The measures are six times a depth, so that there is room between a tree and its parts: for
-- the value of a tree, which may be that of the same tree as a condition, and then for an operand, and for what takes several.
use Rattle.std.proofs.Common.{◌≡◌, ◌+◌, ◌*◌, max, fold, map, drop}
use Rattle.jm_tree.specs.declared.tree.Tree.{size-Tree}
use Rattle.jm_eval.specs.Evaluation.{value, and_next, or_next}
use Rattle.jm_eval.specs.Seen.{seen}
use Rattle.jm_eval.specs.Values.{add, multiply}
use Rattle.jm_eval.specs.Views.{view}
use Rattle.jm_eval.proofs.evaluation.+evaluation.Given as goal

abbrev pub decreases-condition : goal.decreases-condition
decreases-condition l = 6 * goal.size-condition l

abbrev pub decreases-eval : goal.decreases-eval
decreases-eval l = 6 * goal.size-eval l + 1

abbrev pub decreases-operand : goal.decreases-operand
decreases-operand l = 6 * goal.size-operand l + 2

abbrev pub decreases-compare : goal.decreases-compare
decreases-compare l = 6 * max (size-Tree l.left.now) (size-Tree l.right.now) + 4

abbrev pub decreases-compare_operands : goal.decreases-compare_operands
decreases-compare_operands l = 6 * max (size-Tree l.left.now) (size-Tree l.right.now) + 3

abbrev pub decreases-is_between : goal.decreases-is_between
decreases-is_between l = 6 * max (size-Tree l.value.now) (max (size-Tree l.low.now) (size-Tree l.high.now)) + 4

abbrev pub decreases-is_operand_between : goal.decreases-is_operand_between
decreases-is_operand_between l = 6 * max (size-Tree l.value.now) (max (size-Tree l.low.now) (size-Tree l.high.now)) + 3

abbrev pub decreases-sum : goal.decreases-sum
decreases-sum l = 6 * goal.size-sum l + 3

abbrev pub decreases-product : goal.decreases-product
decreases-product l = 6 * goal.size-product l + 3

abbrev pub decreases-sum_condition : goal.decreases-sum_condition
decreases-sum_condition l = 6 * goal.size-sum_condition l + 4

abbrev pub decreases-product_condition : goal.decreases-product_condition
decreases-product_condition l = 6 * goal.size-product_condition l + 4

abbrev pub decreases-all : goal.decreases-all
decreases-all l = 6 * goal.size-all l + 1

abbrev pub decreases-any_of : goal.decreases-any_of
decreases-any_of l = 6 * goal.size-any_of l + 1

abbrev pub invariant-all-loop-member : goal.invariant-all-loop-member
invariant-all-loop-member l =
    fold and_next l.initial.truth (map (value (view l.message)) l.members) ≡ fold and_next l.truth (map (value (view l.message)) (drop l.member-index l.members))

abbrev pub invariant-any_of-loop-member : goal.invariant-any_of-loop-member
invariant-any_of-loop-member l =
    fold or_next l.initial.truth (map (value (view l.message)) l.members) ≡ fold or_next l.truth (map (value (view l.message)) (drop l.member-index l.members))

abbrev pub invariant-product-loop-op : goal.invariant-product-loop-op
invariant-product-loop-op l =
    fold multiply (seen l.initial.total) (map (λ p. (p.0, value (view l.message) p.1)) l.rest)
    ≡ fold multiply (seen l.total) (map (λ p. (p.0, value (view l.message) p.1)) (drop l.op-index l.rest))

abbrev pub invariant-sum-loop-op : goal.invariant-sum-loop-op
invariant-sum-loop-op l =
    fold add (seen l.initial.total) (map (λ p. (p.0, value (view l.message) p.1)) l.rest)
    ≡ fold add (seen l.total) (map (λ p. (p.0, value (view l.message) p.1)) (drop l.op-index l.rest))
