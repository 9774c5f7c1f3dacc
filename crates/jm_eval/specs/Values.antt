-- The values of selectors, and the tables by which they are worked (Jakarta Messaging 3.1, section 3.8.1).
use Rattle.std.specs.Prelude.{ℕ, ℤ, pos, ◌+ℤ◌, ◌-ℤ◌, ◌*ℤ◌, neg_ℤ, int_div, int_lt, int_le, Bool, true, false, not, ◌&&◌, if◌then◌else◌, zero, List, Option, Some, None}
use Rattle.jm_tree.specs.Operators.{least}
use Rattle.jm_tree.specs.declared.tree.Comparison.{Comparison}
use Rattle.jm_tree.specs.declared.tree.Comparison.TheVariants.{Equal, NotEqual, Less, LessOrEqual, Greater, GreaterOrEqual}
use Rattle.jm_tree.specs.declared.tree.Additive.{Additive}
use Rattle.jm_tree.specs.declared.tree.Additive.TheVariants.{Plus, Minus}
use Rattle.jm_tree.specs.declared.tree.Multiplicative.{Multiplicative}
use Rattle.jm_tree.specs.declared.tree.Multiplicative.TheVariants.{Times, Divide}
use Rattle.jm_eval.specs.declared.truth.Truth.{Truth}
use Rattle.jm_eval.specs.declared.truth.Truth.TheVariants as t
use Rattle.jm_tree.specs.Names.{texts_equal, is_among}
use Rattle.jm_tree.specs.Patterns.{items}
use Rattle.jm_eval.specs.Patterns.{matches}
use Rattle.std.specs.Str.{chars}

-- a value: unknown, a truth value, a whole number or a text
pub data Value : Type 0 where
  Unknown : Value
  Boolean : Bool → Value
  Number : ℤ → Value
  Text : List ℕ → Value

-- ---- conditions: three-valued logic

-- the truth value of a test
abbrev pub truth_of : Bool → Truth
truth_of true = t.True
truth_of false = t.False

-- a value as a condition: a truth value as it is; a number or a text is UNKNOWN
abbrev pub condition_of : Value → Truth
condition_of (Boolean b) = truth_of b
condition_of Unknown = t.Unknown
condition_of (Number n) = t.Unknown
condition_of (Text cs) = t.Unknown

-- the value of a condition
abbrev pub value_of : Truth → Value
value_of t.True = Boolean true
value_of t.False = Boolean false
value_of t.Unknown = Unknown

-- NOT
abbrev pub not_of : Truth → Truth
not_of t.True = t.False
not_of t.False = t.True
not_of t.Unknown = t.Unknown

-- AND
abbrev pub and_of : Truth → Truth → Truth
and_of t.False _ = t.False
and_of _ t.False = t.False
and_of t.True t.True = t.True
and_of _ _ = t.Unknown

-- OR
abbrev pub or_of : Truth → Truth → Truth
or_of t.True _ = t.True
or_of _ t.True = t.True
or_of t.False t.False = t.False
or_of _ _ = t.Unknown

-- NOT IN, NOT LIKE and IS NOT NULL are the NOT of IN, LIKE and IS NULL
abbrev pub negated_if : Bool → Truth → Truth
negated_if negated truth = if negated then not_of truth else truth

-- ---- arithmetic on whole numbers without bounds

-- 2^63-1, the greatest number
abbrev pub greatest : ℤ
greatest = pos 9223372036854775807

-- a whole number of 64 bits, -2^63 to 2^63-1; there is none outside
abbrev pub bounded : ℤ → Option ℤ
bounded z = if int_le least z && int_le z greatest then Some z else None

-- the quotient, which truncates towards zero; there is none by zero
abbrev pub quotient : ℤ → ℤ → Option ℤ
quotient a (pos zero) = None
quotient a b = bounded (int_div a b)

-- a number, or UNKNOWN where there is none
abbrev pub number_of : Option ℤ → Value
number_of None = Unknown
number_of (Some n) = Number n

-- the unary plus
abbrev pub kept : Value → Value
kept (Number n) = Number n
kept _ = Unknown

-- the unary minus
abbrev pub negative : Value → Value
negative (Number n) = number_of (bounded (neg_ℤ n))
negative _ = Unknown

-- the result of an operator of a sum
abbrev pub additive : Additive → ℤ → ℤ → Option ℤ
additive Plus a b = bounded (a +ℤ b)
additive Minus a b = bounded (a -ℤ b)

-- the result of an operator of a product
abbrev pub multiplicative : Multiplicative → ℤ → ℤ → Option ℤ
multiplicative Times a b = bounded (a *ℤ b)
multiplicative Divide a b = quotient a b

-- an operation on values is UNKNOWN where an operand is UNKNOWN or no number
abbrev pub on_numbers : (ℤ → ℤ → Option ℤ) → Value → Value → Value
on_numbers operation (Number a) (Number b) = number_of (operation a b)
on_numbers operation _ _ = Unknown

-- one step of a sum, which is worked from the left
abbrev pub add : Value → Additive × Value → Value
add left step = on_numbers (additive step.0) left step.1

-- one step of a product, which is worked from the left
abbrev pub multiply : Value → Multiplicative × Value → Value
multiply left step = on_numbers (multiplicative step.0) left step.1

-- ---- comparisons

-- two numbers, as the operator says
abbrev pub numbers_compare : Comparison → ℤ → ℤ → Bool
numbers_compare Equal a b = int_le a b && int_le b a
numbers_compare NotEqual a b = not (int_le a b && int_le b a)
numbers_compare Less a b = int_lt a b
numbers_compare LessOrEqual a b = int_le a b
numbers_compare Greater a b = int_lt b a
numbers_compare GreaterOrEqual a b = int_le b a

-- two texts or two truth values, by whether they are equal; an ordering of them is FALSE
abbrev pub equality_compares : Comparison → Bool → Bool
equality_compares Equal equal = equal
equality_compares NotEqual equal = not equal
equality_compares Less equal = false
equality_compares LessOrEqual equal = false
equality_compares Greater equal = false
equality_compares GreaterOrEqual equal = false

-- whether two truth values are equal
abbrev pub booleans_equal : Bool → Bool → Bool
booleans_equal true b = b
booleans_equal false b = not b

-- a comparison: UNKNOWN where a side is UNKNOWN, FALSE for unlike types, with `<>` too (ours)
abbrev pub comparison : Comparison → Value → Value → Truth
comparison op Unknown _ = t.Unknown
comparison op _ Unknown = t.Unknown
comparison op (Number a) (Number b) = truth_of (numbers_compare op a b)
comparison op (Text a) (Text b) = truth_of (equality_compares op (texts_equal a b))
comparison op (Boolean a) (Boolean b) = truth_of (equality_compares op (booleans_equal a b))
comparison op _ _ = t.False

-- `a BETWEEN b AND c` is `a >= b AND a <= c`; `a NOT BETWEEN b AND c` is `a < b OR a > c`, and not the
-- NOT of it (ours, for unlike types)
abbrev pub between : Bool → Value → Value → Value → Truth
between false operand low high = and_of (comparison GreaterOrEqual operand low) (comparison LessOrEqual operand high)
between true operand low high = or_of (comparison Less operand low) (comparison Greater operand high)

-- ---- the tests of an identifier

-- IN: UNKNOWN where the identifier is NULL, TRUE where it is a text of the list, else FALSE
abbrev pub is_in : Value → List (List ℕ) → Truth
is_in Unknown list = t.Unknown
is_in (Text cs) list = truth_of (is_among cs list)
is_in _ list = t.False

-- LIKE: UNKNOWN where the identifier is NULL, FALSE for what is no text, else whether the text fits
abbrev pub is_like : Value → List ℕ → Option ℕ → Truth
is_like Unknown pattern escape = t.Unknown
is_like (Text cs) pattern escape = truth_of (matches (items escape (chars pattern)) (chars cs))
is_like _ pattern escape = t.False

-- IS NULL
abbrev pub is_null : Value → Truth
is_null Unknown = t.True
is_null _ = t.False
