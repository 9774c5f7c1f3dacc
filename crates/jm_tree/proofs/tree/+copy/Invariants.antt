-- Each call goes down the tree. The measures are three times a depth, so that there is room between a
-- tree and its parts: for a call that is passed several parts, and then for a call that is passed one.
use Rattle.std.proofs.Common.{◌≡◌, ◌+◌, ◌*◌, max, take}
use Rattle.jm_tree.specs.declared.tree.Tree.{size-Tree}
use Rattle.jm_tree.proofs.tree.+copy.Given as goal

abbrev pub decreases-Tree::copy : goal.decreases-Tree::copy
decreases-Tree::copy l = 3 * goal.size-Tree::copy l

abbrev pub decreases-copy_boxed : goal.decreases-copy_boxed
decreases-copy_boxed l = 3 * goal.size-copy_boxed l + 1

abbrev pub decreases-copy_members : goal.decreases-copy_members
decreases-copy_members l = 3 * goal.size-copy_members l + 1

abbrev pub decreases-copy_addends : goal.decreases-copy_addends
decreases-copy_addends l = 3 * goal.size-copy_addends l + 1

abbrev pub decreases-copy_factors : goal.decreases-copy_factors
decreases-copy_factors l = 3 * goal.size-copy_factors l + 1

abbrev pub decreases-copy_comparison : goal.decreases-copy_comparison
decreases-copy_comparison l = 3 * max (size-Tree l.left.now) (size-Tree l.right.now) + 2

abbrev pub decreases-copy_between : goal.decreases-copy_between
decreases-copy_between l = 3 * max (size-Tree l.operand.now) (max (size-Tree l.low.now) (size-Tree l.high.now)) + 2

abbrev pub invariant-copy_members-loop-member : goal.invariant-copy_members-loop-member
invariant-copy_members-loop-member l = l.copies.items ≡ take l.member-index l.members

abbrev pub invariant-copy_addends-loop-addend : goal.invariant-copy_addends-loop-addend
invariant-copy_addends-loop-addend l = l.copies.items ≡ take l.addend-index l.addends

abbrev pub invariant-copy_factors-loop-factor : goal.invariant-copy_factors-loop-factor
invariant-copy_factors-loop-factor l = l.copies.items ≡ take l.factor-index l.factors
