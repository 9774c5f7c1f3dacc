-- The grammar: which tokens spell a tree.
use Rattle.std.specs.Prelude.{◌≡◌, ℕ, zero, suc, pos, ◌<◌, Bool, true, false, List, [], ◌∷◌, ◌++◌, Option, Some, None}
use Rattle.jm_lexer.specs.declared.token.Mark.{Mark}
use Rattle.jm_lexer.specs.declared.token.Mark.TheVariants as m
use Rattle.jm_lexer.specs.declared.token.Kind.TheVariants as kinds
use Rattle.jm_lexer.specs.declared.token.Token.{Token}
use Rattle.jm_tree.specs.declared.tree.Additive.{Additive}
use Rattle.jm_tree.specs.declared.tree.Multiplicative.{Multiplicative}
use Rattle.jm_tree.specs.declared.tree.Comparison.{Comparison}
use Rattle.jm_tree.specs.declared.tree.Tree.{Tree}
use Rattle.jm_tree.specs.declared.tree.Tree.TheVariants as e
use Rattle.jm_tree.specs.Sorts.{fits_number, fits_truth, fits_comparison, single}
use Rattle.jm_tree.specs.Operators.{operator_in, Line, Ors, Nots, Signs, least, additive_of, multiplicative_of, comparison_of, and_of, or_of}
use Rattle.jm_lexer.specs.Words.{limit}

-- which tokens spell which tree
abbrev pub Spelling : Type 1
Spelling = Tree → List Token → Type 0

-- the token is this keyword or sign
abbrev pub Is : Mark → Token → Type 0
Is mark t = t.kind ≡ kinds.Mark mark

-- the token is a text of this content
abbrev pub IsText : List ℕ → Token → Type 0
IsText w t = t.kind ≡ kinds.Text w

-- the token is this one of the operators
abbrev pub Operates : {O : Type 0} → (Mark → Option O) → O → Token → Type 0
Operates operators o t = operator_in operators (Some t.kind) ≡ Some o

-- primary = number | text | TRUE | FALSE | identifier | ( or )
pub data Primary (levels : ℕ) (Lower : Line → Spelling) : Tree → List Token → Type 0 where
  number : {t : Token} {n : ℕ} → t.kind ≡ kinds.Number n → n < limit → Primary levels Lower (e.Num (pos n)) (t ∷ [])
  content : {t : Token} {w : List ℕ} → IsText w t → Primary levels Lower (e.Text w) (t ∷ [])
  truth : {t : Token} → Is m.True t → Primary levels Lower (e.Truth true) (t ∷ [])
  untruth : {t : Token} → Is m.False t → Primary levels Lower (e.Truth false) (t ∷ [])
  name : {t : Token} {w : List ℕ} → t.kind ≡ kinds.Name w → Primary levels Lower (e.Name w) (t ∷ [])
  grouped : {tree : Tree} (o c : Token) (toks : List Token) → Is m.Open o → Is m.Close c → 0 < levels → Lower Ors tree toks
      → Primary levels Lower tree (o ∷ toks ++ c ∷ [])

-- unary = ( + | - ) unary | primary; a minus before the number 2^63 gives -2^63
pub data Unary (levels : ℕ) (Lower : Line → Spelling) : Tree → List Token → Type 0 where
  plain : {tree : Tree} {toks : List Token} → Primary levels Lower tree toks → Unary levels Lower tree toks
  plus : {s : Token} {operand : Tree} {toks : List Token} → Is m.Plus s → 0 < levels → Lower Signs operand toks → fits_number operand ≡ true
      → Unary levels Lower (e.Plus operand) (s ∷ toks)
  minus : {s : Token} {operand : Tree} {toks : List Token} → Is m.Minus s → 0 < levels → Lower Signs operand toks → fits_number operand ≡ true
      → Unary levels Lower (e.Neg operand) (s ∷ toks)
  lowest : {s t : Token} → Is m.Minus s → 0 < levels → t.kind ≡ kinds.Number limit → Unary levels Lower (e.Num least) (s ∷ t ∷ [])

-- { operator part }, each part of the kind that the operator takes
pub data Rest (O I : Type 0) (operators : Mark → Option O) (item : O → Tree → I) (fits : Tree → Bool) (Part : Spelling) : List I → List Token → Type 0 where
  none : Rest O I operators item fits Part [] []
  more : {o : O} {x : Tree} {xs : List I} (j : Token) (front back : List Token) → Operates operators o j → Part x front → fits x ≡ true
      → Rest O I operators item fits Part xs back → Rest O I operators item fits Part (item o x ∷ xs) (j ∷ front ++ back)

-- part { operator part }: one part stands for itself
pub data Chain (O I : Type 0) (operators : Mark → Option O) (item : O → Tree → I) (fits : Tree → Bool) (make : Tree → List I → Tree) (Part : Spelling)
    : Tree → List Token → Type 0 where
  one : {x : Tree} {toks : List Token} → Part x toks → Chain O I operators item fits make Part x toks
  several : {x : Tree} {y : I} {ys : List I} (front back : List Token) → Part x front → fits x ≡ true
      → Rest O I operators item fits Part (y ∷ ys) back → Chain O I operators item fits make Part (make x (y ∷ ys)) (front ++ back)

-- product = unary { ( * | / ) unary }
abbrev pub Product : ℕ → (Line → Spelling) → Spelling
Product levels Lower = Chain Multiplicative (Multiplicative × Tree) multiplicative_of (λ o x. (o, x)) fits_number e.Product (Unary levels Lower)

-- sum = product { ( + | - ) product }
abbrev pub Sum : ℕ → (Line → Spelling) → Spelling
Sum levels Lower = Chain Additive (Additive × Tree) additive_of (λ o x. (o, x)) fits_number e.Sum (Product levels Lower)

-- text { , text }
pub data Texts : List (List ℕ) → List Token → Type 0 where
  last : {w : List ℕ} {t : Token} → IsText w t → Texts (w ∷ []) (t ∷ [])
  more : {w : List ℕ} {ws : List (List ℕ)} {t c : Token} {toks : List Token} → IsText w t → Is m.Comma c → Texts ws toks → Texts (w ∷ ws) (t ∷ c ∷ toks)

-- BETWEEN sum AND sum | IN ( text { , text } ) | LIKE text [ ESCAPE text ], after the operand x, with or without NOT before it
pub data Predicate (levels : ℕ) (Lower : Line → Spelling) (negated : Bool) : Tree → Tree → List Token → Type 0 where
  between : {x low high : Tree} (b a : Token) (mid back : List Token) → Is m.Between b → Sum levels Lower low mid → Is m.And a → Sum levels Lower high back
      → fits_number x ≡ true → fits_number low ≡ true → fits_number high ≡ true
      → Predicate levels Lower negated x (e.Between negated x low high) (b ∷ mid ++ a ∷ back)
  membership : {w : List ℕ} {ws : List (List ℕ)} (i o c : Token) (list : List Token) → Is m.In i → Is m.Open o → Texts ws list → Is m.Close c
      → Predicate levels Lower negated (e.Name w) (e.In negated w ws) (i ∷ o ∷ list ++ c ∷ [])
  likeness : {w pattern : List ℕ} {l p : Token} → Is m.Like l → IsText pattern p
      → Predicate levels Lower negated (e.Name w) (e.Like negated w pattern None) (l ∷ p ∷ [])
  escaped : {w pattern escape : List ℕ} {c : ℕ} {l p s q : Token} → Is m.Like l → IsText pattern p → Is m.Escape s → IsText escape q → single escape ≡ Some c
      → Predicate levels Lower negated (e.Name w) (e.Like negated w pattern (Some c)) (l ∷ p ∷ s ∷ q ∷ [])

-- tail = comparison sum | [NOT] predicate | IS [NOT] NULL, after the operand x
pub data Tail (levels : ℕ) (Lower : Line → Spelling) : Tree → Tree → List Token → Type 0 where
  compared : {x y : Tree} {op : Comparison} {j : Token} {back : List Token} → Operates comparison_of op j → Sum levels Lower y back
      → fits_comparison op x ≡ true → fits_comparison op y ≡ true → Tail levels Lower x (e.Compare op x y) (j ∷ back)
  stated : {x y : Tree} {toks : List Token} → Predicate levels Lower false x y toks → Tail levels Lower x y toks
  negated : {x y : Tree} {n : Token} {toks : List Token} → Is m.Not n → Predicate levels Lower true x y toks → Tail levels Lower x y (n ∷ toks)
  null : {w : List ℕ} {i n : Token} → Is m.Is i → Is m.Null n → Tail levels Lower (e.Name w) (e.IsNull false w) (i ∷ n ∷ [])
  not_null : {w : List ℕ} {i d n : Token} → Is m.Is i → Is m.Not d → Is m.Null n → Tail levels Lower (e.Name w) (e.IsNull true w) (i ∷ d ∷ n ∷ [])

-- test = sum [ tail ]
pub data Test (levels : ℕ) (Lower : Line → Spelling) : Tree → List Token → Type 0 where
  alone : {x : Tree} {toks : List Token} → Sum levels Lower x toks → Test levels Lower x toks
  tailed : {x y : Tree} (front back : List Token) → Sum levels Lower x front → Tail levels Lower x y back → Test levels Lower y (front ++ back)

-- not = NOT not | test
pub data Condition (levels : ℕ) (Lower : Line → Spelling) : Tree → List Token → Type 0 where
  tested : {x : Tree} {toks : List Token} → Test levels Lower x toks → Condition levels Lower x toks
  denied : {n : Token} {x : Tree} {toks : List Token} → Is m.Not n → 0 < levels → Lower Nots x toks → fits_truth x ≡ true
      → Condition levels Lower (e.Not x) (n ∷ toks)

-- and = not { AND not }
abbrev pub Both : ℕ → (Line → Spelling) → Spelling
Both levels Lower = Chain (Unit {0}) Tree and_of (λ o x. x) fits_truth (λ first rest. e.All (first ∷ rest)) (Condition levels Lower)

-- or = and { OR and }
abbrev pub Either : ℕ → (Line → Spelling) → Spelling
Either levels Lower = Chain (Unit {0}) Tree or_of (λ o x. x) fits_truth (λ first rest. e.AnyOf (first ∷ rest)) (Both levels Lower)

-- what each line that opens a level spells, with this many levels left
abbrev pub LineOf : ℕ → (Line → Spelling) → Line → Spelling
LineOf levels Lower Ors = Either levels Lower
LineOf levels Lower Nots = Condition levels Lower
LineOf levels Lower Signs = Unary levels Lower

-- what a line spells below a level that was opened when this many were left
abbrev pub Below : ℕ → Line → Spelling
Below zero line tree toks = ⊥
Below (suc n) line tree toks = LineOf n (Below n) line tree toks

-- the tokens spell the tree as a selector, with at most 64 levels
pub record Spells (tree : Tree) (toks : List Token) : Type 0 where
  pub line : Either 64 (Below 64) tree toks
  pub whole : fits_truth tree ≡ true
