-- What is read with no rule of the grammar below it: the leaves of a tree, and the tree of a sign.
use Rattle.std.specs.Prelude.{ℕ, pos, nat_lt, true, false, if◌then◌else◌, Option, Some, None}
use Rattle.jm_base.specs.declared.refusal.Cause.TheVariants as causes
use Rattle.jm_lexer.specs.Words.{limit}
use Rattle.jm_lexer.specs.declared.token.Mark.{Mark}
use Rattle.jm_lexer.specs.declared.token.Mark.TheVariants as m
use Rattle.jm_lexer.specs.declared.token.Kind.{Kind}
use Rattle.jm_lexer.specs.declared.token.Kind.TheVariants as kinds
use Rattle.jm_tree.specs.declared.tree.Additive.{Additive}
use Rattle.jm_tree.specs.declared.tree.Additive.TheVariants.{Plus, Minus}
use Rattle.jm_tree.specs.declared.tree.Tree.{Tree}
use Rattle.jm_tree.specs.declared.tree.Tree.TheVariants as e
use Rattle.jm_tree.specs.Input.{Parser, ◌>>=◌, ◌>>◌, pure, stop, refuse, peek, pass}

-- a number, which has to be below 2^63
unfoldable pub number : ℕ → Parser Tree
number n = if nat_lt n limit then pass >> pure (e.Num (pos n)) else stop causes.Number

-- a leaf that is a keyword
abbrev pub marked : Mark → Parser Tree
marked m.True = pass >> pure (e.Truth true)
marked m.False = pass >> pure (e.Truth false)
marked _ = refuse

-- a leaf, by the kind of the next token
abbrev pub leaf_by : Option Kind → Parser Tree
leaf_by None = refuse
leaf_by (Some (kinds.Mark mark)) = marked mark
leaf_by (Some (kinds.Name name)) = pass >> pure (e.Name name)
leaf_by (Some (kinds.Number n)) = number n
leaf_by (Some (kinds.Text w)) = pass >> pure (e.Text w)

-- number | text | TRUE | FALSE | identifier
unfoldable pub leaf : Parser Tree
leaf = peek >>= leaf_by

-- the tree of a sign and its operand
abbrev pub signed_by : Additive → Tree → Tree
signed_by Plus = e.Plus
signed_by Minus = e.Neg
