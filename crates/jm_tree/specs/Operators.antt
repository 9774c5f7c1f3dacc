-- The operators of the grammar, the lines that open a level, and the least number.
use Rattle.std.specs.Prelude.{ℤ, negsuc, Option, Some, None}
use Rattle.jm_lexer.specs.declared.token.Mark.{Mark}
use Rattle.jm_lexer.specs.declared.token.Mark.TheVariants as m
use Rattle.jm_lexer.specs.declared.token.Kind.{Kind}
use Rattle.jm_lexer.specs.declared.token.Kind.TheVariants as kinds
use Rattle.jm_tree.specs.declared.tree.Additive.{Additive}
use Rattle.jm_tree.specs.declared.tree.Additive.TheVariants as additives
use Rattle.jm_tree.specs.declared.tree.Multiplicative.{Multiplicative}
use Rattle.jm_tree.specs.declared.tree.Multiplicative.TheVariants as multiplicatives
use Rattle.jm_tree.specs.declared.tree.Comparison.{Comparison}
use Rattle.jm_tree.specs.declared.tree.Comparison.TheVariants as comparisons

-- the lines that open a level
pub data Line : Type 0 where
  Ors : Line
  Nots : Line
  Signs : Line

-- the signs of a sum
abbrev pub additive_of : Mark → Option Additive
additive_of m.Plus = Some additives.Plus
additive_of m.Minus = Some additives.Minus
additive_of _ = None

-- the signs of a product
abbrev pub multiplicative_of : Mark → Option Multiplicative
multiplicative_of m.Times = Some multiplicatives.Times
multiplicative_of m.Divide = Some multiplicatives.Divide
multiplicative_of _ = None

-- the signs of a comparison
abbrev pub comparison_of : Mark → Option Comparison
comparison_of m.Equal = Some comparisons.Equal
comparison_of m.NotEqual = Some comparisons.NotEqual
comparison_of m.Less = Some comparisons.Less
comparison_of m.LessOrEqual = Some comparisons.LessOrEqual
comparison_of m.Greater = Some comparisons.Greater
comparison_of m.GreaterOrEqual = Some comparisons.GreaterOrEqual
comparison_of _ = None

-- the keyword AND alone
abbrev pub and_of : Mark → Option (Unit {0})
and_of m.And = Some tt
and_of _ = None

-- the keyword OR alone
abbrev pub or_of : Mark → Option (Unit {0})
or_of m.Or = Some tt
or_of _ = None

-- -2^63, the least number
abbrev pub least : ℤ
least = negsuc 9223372036854775807

-- which of these operators the token is
abbrev pub operator_in : {O : Type 0} → (Mark → Option O) → Option Kind → Option O
operator_in operators None = None
operator_in operators (Some (kinds.Mark mark)) = operators mark
operator_in operators (Some (kinds.Name name)) = None
operator_in operators (Some (kinds.Number number)) = None
operator_in operators (Some (kinds.Text text)) = None
