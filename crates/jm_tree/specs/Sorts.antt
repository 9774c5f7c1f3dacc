-- What a tree may stand for, and which texts may follow ESCAPE.
use Rattle.std.specs.Prelude.{ℕ, Bool, true, false, if◌then◌else◌, List, [], ◌∷◌, Option, Some, None}
use Rattle.std.specs.Str.{chars}
use Rattle.jm_tree.specs.declared.sort.Sort.{Sort}
use Rattle.jm_tree.specs.declared.sort.Sort.TheVariants.{Number, Text, Truth, Any}
use Rattle.jm_tree.specs.declared.tree.Comparison.{Comparison}
use Rattle.jm_tree.specs.declared.tree.Comparison.TheVariants as c
use Rattle.jm_tree.specs.declared.tree.Tree.{Tree, out-Tree}
use Rattle.jm_tree.specs.declared.tree.Tree.TheOpen.{Tree-F}

-- numbers and arithmetic stand for a number, a text for a text, an identifier for anything, all else for a truth value
abbrev pub sort_by : Tree-F Tree → Sort
sort_by (Tree-F.Num number) = Number
sort_by (Tree-F.Plus operand) = Number
sort_by (Tree-F.Neg operand) = Number
sort_by (Tree-F.Sum first rest) = Number
sort_by (Tree-F.Product first rest) = Number
sort_by (Tree-F.Text text) = Text
sort_by (Tree-F.Name name) = Any
sort_by _ = Truth

-- what the tree may stand for
unfoldable pub sort_of : Tree → Sort
sort_of tree = sort_by (out-Tree tree)

-- a number, or anything
abbrev pub is_number : Sort → Bool
is_number Number = true
is_number Any = true
is_number _ = false

-- a truth value, or anything
abbrev pub is_truth : Sort → Bool
is_truth Truth = true
is_truth Any = true
is_truth _ = false

-- an operand of arithmetic, of an ordering and of BETWEEN
abbrev pub fits_number : Tree → Bool
fits_number tree = is_number (sort_of tree)

-- an operand of AND, OR and NOT, and the whole selector
abbrev pub fits_truth : Tree → Bool
fits_truth tree = is_truth (sort_of tree)

-- the comparisons that order their operands
abbrev pub is_ordering : Comparison → Bool
is_ordering c.Equal = false
is_ordering c.NotEqual = false
is_ordering _ = true

-- an operand of a comparison: `=` and `<>` take every kind
abbrev pub fits_comparison : Comparison → Tree → Bool
fits_comparison op tree = if is_ordering op then fits_number tree else true

-- the one character of a list
abbrev pub only : List ℕ → Option ℕ
only [] = None
only (c ∷ []) = Some c
only (c ∷ d ∷ more) = None

-- the character of a text that is one Unicode scalar value
unfoldable pub single : List ℕ → Option ℕ
single w = only (chars w)
