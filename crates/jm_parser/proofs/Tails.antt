-- A tail that begins with a comparison.
use Rattle.std.proofs.Common.{◌≡◌, ℕ, Some, ap}
use Rattle.jm_lexer.specs.declared.token.Mark.{Mark}
use Rattle.jm_lexer.specs.declared.token.Mark.TheVariants as m
use Rattle.jm_tree.specs.declared.tree.Comparison.{Comparison}
use Rattle.jm_tree.specs.declared.tree.Comparison.TheVariants as comparisons
use Rattle.jm_tree.specs.declared.tree.Tree.{Tree}
use Rattle.jm_tree.specs.Input.{Input, Parser}
use Rattle.jm_tree.specs.Operators.{Line, comparison_of}
use Rattle.jm_tree.specs.FaultOrder.{tail, compared}

module _ (n : ℕ) (lower : Line → Parser Tree) (x : Tree) (at : ℕ) (i : Input) where
  pub tail_compared : (mark : Mark) (op : Comparison) → comparison_of mark ≡ Some op → tail n lower x at mark i ≡ compared n lower op x at i
  tail_compared m.Equal op h = let e : comparisons.Equal ≡ op = cc in ap (λ o. compared n lower o x at i) e
  tail_compared m.NotEqual op h = let e : comparisons.NotEqual ≡ op = cc in ap (λ o. compared n lower o x at i) e
  tail_compared m.Less op h = let e : comparisons.Less ≡ op = cc in ap (λ o. compared n lower o x at i) e
  tail_compared m.LessOrEqual op h = let e : comparisons.LessOrEqual ≡ op = cc in ap (λ o. compared n lower o x at i) e
  tail_compared m.Greater op h = let e : comparisons.Greater ≡ op = cc in ap (λ o. compared n lower o x at i) e
  tail_compared m.GreaterOrEqual op h = let e : comparisons.GreaterOrEqual ≡ op = cc in ap (λ o. compared n lower o x at i) e
  tail_compared _ op h = absurd (cc)
