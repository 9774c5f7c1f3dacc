-- The order in which the faults of a list of tokens are found: one rule of reading for each line of the grammar.
use Rattle.std.specs.Prelude.{ℕ, pos, zero, suc, ◌==◌, nat_lt, Bool, true, false, if◌then◌else◌, List, [], ◌∷◌, ◌++◌, Option, Some, None, is_some}
use Rattle.jm_base.specs.declared.refusal.Cause.TheVariants as causes
use Rattle.jm_lexer.specs.declared.token.Mark.{Mark}
use Rattle.jm_lexer.specs.declared.token.Mark.TheVariants as m
use Rattle.jm_lexer.specs.declared.token.Kind.{Kind}
use Rattle.jm_lexer.specs.declared.token.Kind.TheVariants as kinds
use Rattle.jm_tree.specs.declared.tree.Comparison.{Comparison}
use Rattle.jm_tree.specs.declared.tree.Comparison.TheVariants as comparisons
use Rattle.jm_tree.specs.declared.tree.Tree.{Tree, out-Tree}
use Rattle.jm_tree.specs.declared.tree.Tree.TheOpen.{Tree-F}
use Rattle.jm_tree.specs.declared.tree.Tree.TheVariants as e
use Rattle.jm_tree.specs.Operators.{Line, Ors, Nots, Signs, least, additive_of, multiplicative_of, and_of, or_of}
use Rattle.jm_tree.specs.Sorts.{fits_number, fits_truth, fits_comparison, single}
use Rattle.jm_lexer.specs.Words.{if_some}
use Rattle.jm_tree.specs.Input.{Parser, ◌>>=◌, ◌>>◌, pure, stop, refuse, here, peek, pass, eat, eat_operator, expect, text, left, unless, or_else, note, sees}
use Rattle.jm_lexer.specs.Words.{limit}

-- one operand stands for itself
unfoldable pub settle : {I : Type 0} → (Tree → List I → Tree) → Tree → List I → Option ℕ → Parser Tree
settle make first [] own = pure first
settle make first (x ∷ xs) own = note own >> pure (make first (x ∷ xs))

-- `{ operator part }`, after a part
unfoldable pub chain_from : {O I : Type 0} → (Mark → Option O) → (O → Tree → I) → (Tree → Bool) → (Tree → List I → Tree) → Parser Tree → ℕ → Tree → List I → Option ℕ → Parser Tree
chain_from operators item fits make part zero first found own = settle make first found own
chain_from operators item fits make part (suc n) first found own = do
  operator ← eat_operator operators
  if_some operator (settle make first found own) (λ o. here >>= λ at. part >>= λ x.
      chain_from operators item fits make part n first (found ++ item o x ∷ []) (or_else own (unless (fits x) at)))

-- `part { operator part }`: the operands are checked once all were read
unfoldable pub chain : {O I : Type 0} → (Mark → Option O) → (O → Tree → I) → (Tree → Bool) → (Tree → List I → Tree) → Parser Tree → Parser Tree
chain operators item fits make part = do
  at ← here
  first ← part
  (λ i. chain_from operators item fits make part (left i) first [] (unless (fits first) at) i)

-- the test of an identifier; of another operand the place is kept
abbrev pub named_by : (List ℕ → Tree) → Tree → ℕ → Tree-F Tree → Parser Tree
named_by make operand at (Tree-F.Name name) = pure (make name)
named_by make operand at _ = note (Some at) >> pure operand

-- an operand that has to be an identifier
unfoldable pub named : (List ℕ → Tree) → Tree → ℕ → Parser Tree
named make operand at = named_by make operand at (out-Tree operand)

-- the test of an identifier against a list
unfoldable pub in_of : Bool → List (List ℕ) → List ℕ → Tree
in_of negated list name = e.In negated name list

-- the test of an identifier against a pattern
unfoldable pub like_of : Bool → List ℕ → Option ℕ → List ℕ → Tree
like_of negated pattern escape name = e.Like negated name pattern escape

-- IS [NOT] NULL
unfoldable pub null_test : Tree → ℕ → Parser Tree
null_test operand at = do
  pass
  negated ← eat m.Not
  expect m.Null
  named (e.IsNull negated) operand at

-- `{ , text }`, after a text
unfoldable pub texts_from : ℕ → List (List ℕ) → Parser (List (List ℕ))
texts_from zero found = pure found
texts_from (suc n) found = do
  more ← eat m.Comma
  if more then (text >>= λ w. texts_from n (found ++ w ∷ [])) else pure found

-- `text { , text }`
unfoldable pub texts : Parser (List (List ℕ))
texts = do
  first ← text
  (λ i. texts_from (left i) (first ∷ []) i)

-- IN ( text { , text } )
unfoldable pub membership : Bool → Tree → ℕ → Parser Tree
membership negated operand at = do
  pass
  expect m.Open
  list ← texts
  expect m.Close
  named (in_of negated list) operand at

-- the test after ESCAPE text: the left operand is checked, then that text
abbrev pub escaped_by : Bool → Tree → ℕ → List ℕ → List ℕ → ℕ → Parser Tree
escaped_by negated operand at pattern escape place = do
  tree ← named (like_of negated pattern (single escape)) operand at
  note (unless (is_some (single escape)) place)
  pure tree

-- ESCAPE text: the left operand is checked before it
unfoldable pub escaped : Bool → Tree → ℕ → List ℕ → Parser Tree
escaped negated operand at pattern = do
  place ← here
  escape ← text
  escaped_by negated operand at pattern escape place

-- LIKE text [ ESCAPE text ]
unfoldable pub likeness : Bool → Tree → ℕ → Parser Tree
likeness negated operand at = do
  pass
  pattern ← text
  more ← eat m.Escape
  if more then escaped negated operand at pattern
      else named (like_of negated pattern None) operand at

-- with this many levels left, and the rules one level down
module _ (levels : ℕ) (lower : Line → Parser Tree) where
  -- a rule that opens a level: TooDeep where none is left
  abbrev pub deeper : Parser Tree → Parser Tree
  deeper p = if levels == 0 then stop causes.TooDeep else p

  -- ( or )
  unfoldable pub opened : Parser Tree
  opened = do
    pass
    inner ← lower Ors
    expect m.Close
    pure inner

  -- a primary that begins with a mark
  abbrev pub marked : Mark → Parser Tree
  marked m.True = pass >> pure (e.Truth true)
  marked m.False = pass >> pure (e.Truth false)
  marked m.Open = deeper opened
  marked _ = refuse

  -- a primary, by the kind of the next token; 2^63 and above is Number
  abbrev pub primary_by : Option Kind → Parser Tree
  primary_by None = refuse
  primary_by (Some (kinds.Mark mark)) = marked mark
  primary_by (Some (kinds.Name name)) = pass >> pure (e.Name name)
  primary_by (Some (kinds.Number n)) = if nat_lt n limit then pass >> pure (e.Num (pos n)) else stop causes.Number
  primary_by (Some (kinds.Text w)) = pass >> pure (e.Text w)

  -- number | text | TRUE | FALSE | identifier | ( or )
  unfoldable pub primary : Parser Tree
  primary = peek >>= primary_by

  -- the operand of a sign
  unfoldable pub signed : (Tree → Tree) → Parser Tree
  signed make = do
    at ← here
    operand ← lower Signs
    note (unless (fits_number operand) at)
    pure (make operand)

  -- what follows a minus, by the kind of the next token: 2^63 gives -2^63
  abbrev pub minus_by : Option Kind → Parser Tree
  minus_by None = signed e.Neg
  minus_by (Some (kinds.Mark mark)) = signed e.Neg
  minus_by (Some (kinds.Name name)) = signed e.Neg
  minus_by (Some (kinds.Number n)) = if n == limit then pass >> pure (e.Num least) else signed e.Neg
  minus_by (Some (kinds.Text w)) = signed e.Neg

  -- a minus and what follows it
  unfoldable pub minus : Parser Tree
  minus = pass >> (peek >>= minus_by)

  -- a plus and its operand
  unfoldable pub plus : Parser Tree
  plus = pass >> signed e.Plus

  -- ( + | - ) unary | primary
  unfoldable pub unary : Parser Tree
  unary = λ i. if sees m.Minus i then deeper minus i else (if sees m.Plus i then deeper plus i else primary i)

  -- unary { ( * | / ) unary }
  unfoldable pub product : Parser Tree
  product = chain multiplicative_of (λ o x. (o, x)) fits_number e.Product unary

  -- product { ( + | - ) product }
  unfoldable pub sum : Parser Tree
  sum = chain additive_of (λ o x. (o, x)) fits_number e.Sum product

  -- BETWEEN sum AND sum
  unfoldable pub between : Bool → Tree → ℕ → Parser Tree
  between negated operand at = do
    pass
    low_at ← here
    low ← sum
    expect m.And
    high_at ← here
    high ← sum
    note (unless (fits_number operand) at)
    note (unless (fits_number low) low_at)
    note (unless (fits_number high) high_at)
    pure (e.Between negated operand low high)

  -- a comparison, after its left operand
  unfoldable pub compared : Comparison → Tree → ℕ → Parser Tree
  compared op operand at = do
    pass
    right_at ← here
    right ← sum
    note (unless (fits_comparison op operand) at)
    note (unless (fits_comparison op right) right_at)
    pure (e.Compare op operand right)

  -- what follows NOT, after a sum, by the kind of the next token
  abbrev pub negated_by : Tree → ℕ → Option Kind → Parser Tree
  negated_by operand at (Some (kinds.Mark m.Between)) = between true operand at
  negated_by operand at (Some (kinds.Mark m.In)) = membership true operand at
  negated_by operand at (Some (kinds.Mark m.Like)) = likeness true operand at
  negated_by operand at _ = refuse

  -- NOT, after a sum
  unfoldable pub negated_tail : Tree → ℕ → Parser Tree
  negated_tail operand at = do
    pass
    found ← peek
    negated_by operand at found

  -- the tail of a sum, by the mark that stands next; where none begins the sum stands alone
  abbrev pub tail : Tree → ℕ → Mark → Parser Tree
  tail operand at m.Equal = compared comparisons.Equal operand at
  tail operand at m.NotEqual = compared comparisons.NotEqual operand at
  tail operand at m.Less = compared comparisons.Less operand at
  tail operand at m.LessOrEqual = compared comparisons.LessOrEqual operand at
  tail operand at m.Greater = compared comparisons.Greater operand at
  tail operand at m.GreaterOrEqual = compared comparisons.GreaterOrEqual operand at
  tail operand at m.Between = between false operand at
  tail operand at m.In = membership false operand at
  tail operand at m.Like = likeness false operand at
  tail operand at m.Is = null_test operand at
  tail operand at m.Not = negated_tail operand at
  tail operand at _ = pure operand

  -- the tail of a sum, by the kind of the next token
  abbrev pub tail_by : Tree → ℕ → Option Kind → Parser Tree
  tail_by operand at None = pure operand
  tail_by operand at (Some (kinds.Mark mark)) = tail operand at mark
  tail_by operand at (Some (kinds.Name name)) = pure operand
  tail_by operand at (Some (kinds.Number n)) = pure operand
  tail_by operand at (Some (kinds.Text w)) = pure operand

  -- sum [ tail ]
  unfoldable pub tested : Parser Tree
  tested = do
    at ← here
    operand ← sum
    found ← peek
    tail_by operand at found

  -- NOT and its operand
  unfoldable pub denied : Parser Tree
  denied = do
    pass
    at ← here
    operand ← lower Nots
    note (unless (fits_truth operand) at)
    pure (e.Not operand)

  -- NOT condition | tested
  unfoldable pub condition : Parser Tree
  condition = λ i. if sees m.Not i then deeper denied i else tested i

  -- condition { AND condition }
  unfoldable pub both : Parser Tree
  both = chain and_of (λ o x. x) fits_truth (λ first rest. e.All (first ∷ rest)) condition

  -- both { OR both }
  unfoldable pub either : Parser Tree
  either = chain or_of (λ o x. x) fits_truth (λ first rest. e.AnyOf (first ∷ rest)) both

  -- the rule of each line that opens a level
  abbrev pub line_by : Line → Parser Tree
  line_by Ors = either
  line_by Nots = condition
  line_by Signs = unary

-- the rules one level down; with none left there is no rule
unfoldable pub below : ℕ → Line → Parser Tree
below zero line = refuse
below (suc n) line = line_by n (below n) line
