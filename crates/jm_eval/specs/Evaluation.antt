-- The value of a selector over a view (Jakarta Messaging 3.1, section 3.8.1).
use Rattle.std.specs.Prelude.{◌≡◌, true, ℕ, List, fold, Option, Some, None}
use Rattle.jm_tree.specs.declared.tree.Tree.{Tree, fold-Tree}
use Rattle.jm_tree.specs.declared.tree.Tree.TheOpen.{Tree-F}
use Rattle.jm_eval.specs.declared.truth.Truth.{Truth}
use Rattle.jm_eval.specs.declared.truth.Truth.TheVariants as t
use Rattle.jm_eval.specs.Values.{Value, Boolean, Number, Text, kept, negative, add, multiply, comparison, between, is_in, is_like, is_null, negated_if, not_of, and_of, or_of, condition_of, value_of}

-- AND of what was worked so far with one more member
abbrev pub and_next : Truth → Value → Truth
and_next truth member = and_of truth (condition_of member)

-- OR of what was worked so far with one more member
abbrev pub or_next : Truth → Value → Truth
or_next truth member = or_of truth (condition_of member)

-- the value of a node, by the values of the nodes below it
abbrev pub node : (List ℕ → Value) → Tree-F Value → Value
node view (Tree-F.Num number) = Number number
node view (Tree-F.Text text) = Text text
node view (Tree-F.Truth truth) = Boolean truth
node view (Tree-F.Name name) = view name
node view (Tree-F.Plus operand) = kept operand
node view (Tree-F.Neg operand) = negative operand
node view (Tree-F.Sum first rest) = fold add first rest
node view (Tree-F.Product first rest) = fold multiply first rest
node view (Tree-F.Compare op left right) = value_of (comparison op left right)
node view (Tree-F.Between negated operand low high) = value_of (between negated operand low high)
node view (Tree-F.In negated name list) = value_of (negated_if negated (is_in (view name) list))
node view (Tree-F.Like negated name pattern escape) = value_of (negated_if negated (is_like (view name) pattern escape))
node view (Tree-F.IsNull negated name) = value_of (negated_if negated (is_null (view name)))
node view (Tree-F.Not operand) = value_of (not_of (condition_of operand))
node view (Tree-F.All members) = value_of (fold and_next t.True members)
node view (Tree-F.AnyOf members) = value_of (fold or_next t.False members)

-- the value of a tree over a view, by recursion on the tree
unfoldable pub value : (List ℕ → Value) → Tree → Value
value view = fold-Tree Value (node view)

-- the value of a whole selector as a condition
abbrev pub condition : (List ℕ → Value) → Tree → Truth
condition view tree = condition_of (value view tree)

-- a selector selects: it is absent, or its value is TRUE
abbrev pub Selects : (List ℕ → Value) → Option Tree → Type 0
Selects view None = Unit {0}
Selects view (Some tree) = value view tree ≡ Boolean true
