-- What is spelled is read, whatever follows that does not go on with it.
use Rattle.std.proofs.Common.{◌≡◌, ℕ, zero, suc, ◌<◌, ◌≤◌, Bool, true, false, List, [], ◌∷◌, ◌++◌, length, Option, Some, None, Ok, refl, ap, sym, ◌∙◌, arith, append_assoc, append-nil, length-append, if◌then◌else◌, nat_lt, ◌==◌, is_some}
use Rattle.std.proofs.lemmas.Bool.Decides.{nat_tests}
use Rattle.jm_lexer.specs.declared.token.Mark.{Mark}
use Rattle.jm_lexer.specs.declared.token.Mark.TheVariants as m
use Rattle.jm_lexer.specs.declared.token.Kind.{Kind}
use Rattle.jm_lexer.specs.declared.token.Kind.TheVariants as kinds
use Rattle.jm_lexer.specs.declared.token.Token.{Token}
use Rattle.jm_tree.specs.declared.tree.Comparison.{Comparison}
use Rattle.jm_tree.specs.declared.tree.Comparison.TheVariants as comparisons
use Rattle.jm_tree.specs.declared.tree.Additive.{Additive}
use Rattle.jm_tree.specs.declared.tree.Multiplicative.{Multiplicative}
use Rattle.jm_tree.specs.declared.tree.Tree.{Tree, out-Tree, out-roll-Tree}
use Rattle.jm_tree.specs.declared.tree.Tree.TheOpen.{Tree-F}
use Rattle.jm_tree.specs.declared.tree.Tree.TheVariants.{rolls-Name}
use Rattle.jm_tree.specs.declared.tree.Tree.TheVariants as e
use Rattle.jm_tree.specs.Sorts.{fits_number, fits_truth, fits_comparison, single}
use Rattle.jm_tree.specs.Input.{start, Input, Outcome, Parser, and_then, ◌>>=◌, ◌>>◌, pure, pass, first_kind, is_mark, same_mark, kind, next, sees, after, expect, note, noted, or_else, unless, left, eat, here, peek, text, operator_at, after_operator}
use Rattle.jm_tree.specs.Operators.{operator_in, Line, Ors, Nots, Signs, least, additive_of, multiplicative_of, comparison_of, and_of, or_of}
use Rattle.jm_lexer.specs.Words.{limit}
use Rattle.jm_tree.specs.FaultOrder.{settle, chain_from, chain, named, named_by, in_of, like_of, null_test, texts_from, texts, membership, escaped_by, escaped, likeness, opened, primary, signed, minus, minus_by, plus, unary, product, sum, between, compared, negated_by, negated_tail, tail_by, tested, condition, denied, both, either, below}
use Rattle.jm_tree.specs.Spells as s
use Rattle.jm_tree.specs.Spells.{Spelling, Is, IsText, Operates, Rest, Chain}
use Rattle.jm_tree.proofs.Chains.{chain_stop, chain_step}

abbrev at : List Token → ℕ → Option ℕ → Input
at tokens end wrong = record { tokens = tokens; end = end; wrong = wrong }

abbrev Complete : Parser Tree → Spelling → (List Token → Type 0) → Type 0
Complete p S Ends = (x : Tree) (front : List Token) → S x front → (rest : List Token) → Ends rest → (end : ℕ) (wrong : Option ℕ) → p (at (front ++ rest) end wrong) ≡ Ok (x, at rest end wrong)

-- the marks with which a line goes on
abbrev goes_on : (Mark → Bool) → Option Kind → Bool
goes_on g None = false
goes_on g (Some (kinds.Mark mark)) = g mark
goes_on g (Some (kinds.Name w)) = false
goes_on g (Some (kinds.Number n)) = false
goes_on g (Some (kinds.Text w)) = false

abbrev product_goes : Mark → Bool
product_goes m.Times = true
product_goes m.Divide = true
product_goes _ = false

abbrev sum_goes : Mark → Bool
sum_goes m.Plus = true
sum_goes m.Minus = true
sum_goes mark = product_goes mark

abbrev test_goes : Mark → Bool
test_goes m.Equal = true
test_goes m.NotEqual = true
test_goes m.Less = true
test_goes m.LessOrEqual = true
test_goes m.Greater = true
test_goes m.GreaterOrEqual = true
test_goes m.Between = true
test_goes m.In = true
test_goes m.Like = true
test_goes m.Escape = true
test_goes m.Is = true
test_goes m.Not = true
test_goes mark = sum_goes mark

abbrev both_goes : Mark → Bool
both_goes m.And = true
both_goes mark = test_goes mark

abbrev either_goes : Mark → Bool
either_goes m.Or = true
either_goes mark = both_goes mark

abbrev Ends : (Mark → Bool) → List Token → Type 0
Ends g rest = goes_on g (first_kind rest) ≡ false

abbrev EndsOf : Line → List Token → Type 0
EndsOf Ors rest = Ends either_goes rest
EndsOf Nots rest = Ends test_goes rest
EndsOf Signs rest = Unit {0}

-- a rule that ends there ends for a rule with fewer ways on
fewer : (g h : Mark → Bool) → ((mark : Mark) → g mark ≡ false → h mark ≡ false) → (k : Option Kind) → goes_on g k ≡ false → goes_on h k ≡ false
fewer g h less None e = refl
fewer g h less (Some (kinds.Mark mark)) e = less mark e
fewer g h less (Some (kinds.Name w)) e = refl
fewer g h less (Some (kinds.Number n)) e = refl
fewer g h less (Some (kinds.Text w)) e = refl

no_operator : {O : Type 0} (operators : Mark → Option O) (g : Mark → Bool) → ((mark : Mark) → g mark ≡ false → operators mark ≡ None) → (k : Option Kind) → goes_on g k ≡ false
    → operator_in operators k ≡ None
no_operator operators g none None e = refl
no_operator operators g none (Some (kinds.Mark mark)) e = none mark e
no_operator operators g none (Some (kinds.Name w)) e = refl
no_operator operators g none (Some (kinds.Number n)) e = refl
no_operator operators g none (Some (kinds.Text w)) e = refl

no_mark : (found : Mark) (g : Mark → Bool) → ((mark : Mark) → g mark ≡ false → same_mark mark found ≡ false) → (k : Option Kind) → goes_on g k ≡ false → is_mark found k ≡ false
no_mark found g none None e = refl
no_mark found g none (Some (kinds.Mark mark)) e = none mark e
no_mark found g none (Some (kinds.Name w)) e = refl
no_mark found g none (Some (kinds.Number n)) e = refl
no_mark found g none (Some (kinds.Text w)) e = refl

-- an operator of a chain ends its parts
ends_before : {O : Type 0} (operators : Mark → Option O) (g : Mark → Bool) → ((mark : Mark) (o : O) → operators mark ≡ Some o → g mark ≡ false)
    → (o : O) (k : Option Kind) → operator_in operators k ≡ Some o → goes_on g k ≡ false
ends_before operators g ends o None e = refl
ends_before operators g ends o (Some (kinds.Mark mark)) e = ends mark o e
ends_before operators g ends o (Some (kinds.Name w)) e = refl
ends_before operators g ends o (Some (kinds.Number n)) e = refl
ends_before operators g ends o (Some (kinds.Text w)) e = refl

step : {A B : Type 0} {r : Outcome A} {a : A} {j : Input} (f : A → Parser B) → r ≡ Ok (a, j) → and_then r f ≡ f a j
step f h = ap (λ r. and_then r f) h

eaten : {B : Type 0} (mark : Mark) (f : Bool → Parser B) (i : Input) → sees mark i ≡ true → and_then (eat mark i) f ≡ f true (next i)
unfolding after
eaten mark f i h = rw h refl

uneaten : {B : Type 0} (mark : Mark) (f : Bool → Parser B) (i : Input) → sees mark i ≡ false → and_then (eat mark i) f ≡ f false i
unfolding after
uneaten mark f i h = rw h refl

its_seen : (t : Token) (rest : List Token) (end : ℕ) (wrong : Option ℕ) (mark : Mark) → Is mark t → same_mark mark mark ≡ true → sees mark (at (t ∷ rest) end wrong) ≡ true
unfolding sees kind
its_seen t rest end wrong mark is same = rw is same

not_seen : (t : Token) (rest : List Token) (end : ℕ) (wrong : Option ℕ) (mark found : Mark) → Is mark t → same_mark mark found ≡ false → sees found (at (t ∷ rest) end wrong) ≡ false
unfolding sees kind
not_seen t rest end wrong mark found is other = rw is other

noted_none : (tokens : List Token) (end : ℕ) (wrong : Option ℕ) → noted None (at tokens end wrong) ≡ at tokens end wrong
unfolding noted
noted_none tokens end None = refl
noted_none tokens end (Some w) = refl

meets : (mark : Mark) (t : Token) (rest : List Token) (end : ℕ) (wrong : Option ℕ) → Is mark t → same_mark mark mark ≡ true → expect mark (at (t ∷ rest) end wrong) ≡ Ok (tt, at rest end wrong)
unfolding expect sees kind next
meets mark t rest end wrong is same = rw is (rw same refl)

text_read : (w : List ℕ) (t : Token) (rest : List Token) (end : ℕ) (wrong : Option ℕ) → IsText w t → text (at (t ∷ rest) end wrong) ≡ Ok (w, at rest end wrong)
unfolding text kind next
text_read w t rest end wrong is = rw is refl

operator_next : {O : Type 0} (operators : Mark → Option O) (o : O) (t : Token) (rest : List Token) (end : ℕ) (wrong : Option ℕ) → Operates operators o t
    → operator_at operators (at (t ∷ rest) end wrong) ≡ Some o
unfolding operator_at kind
operator_next operators o t rest end wrong is = is

operator_past : {O : Type 0} (operators : Mark → Option O) (o : O) (t : Token) (rest : List Token) (end : ℕ) (wrong : Option ℕ) → Operates operators o t
    → after_operator operators (at (t ∷ rest) end wrong) ≡ at rest end wrong
unfolding after_operator operator_at kind next
operator_past operators o t rest end wrong is = rw is refl

operator_none : {O : Type 0} (operators : Mark → Option O) (rest : List Token) (end : ℕ) (wrong : Option ℕ) → operator_in operators (first_kind rest) ≡ None
    → operator_at operators (at rest end wrong) ≡ None
unfolding operator_at kind
operator_none operators rest end wrong h = h

operator_stays : {O : Type 0} (operators : Mark → Option O) (rest : List Token) (end : ℕ) (wrong : Option ℕ) → operator_in operators (first_kind rest) ≡ None
    → after_operator operators (at rest end wrong) ≡ at rest end wrong
unfolding after_operator operator_at kind
operator_stays operators rest end wrong h = rw h refl

or_none : (own : Option ℕ) → or_else own None ≡ own
or_none None = refl
or_none (Some w) = refl

module _ (O I : Type 0) (operators : Mark → Option O) (item : O → Tree → I) (fits : Tree → Bool) (make : Tree → List I → Tree) (part : Parser Tree) (Part : Spelling)
    (ChainEnds PartEnds : List Token → Type 0) (weaker : (rest : List Token) → ChainEnds rest → PartEnds rest)
    (stops : (rest : List Token) → ChainEnds rest → operator_in operators (first_kind rest) ≡ None)
    (joined : (o : O) (j : Token) (rest : List Token) → Operates operators o j → PartEnds (j ∷ rest)) (complete : Complete part Part PartEnds) where
  long : (xs : List I) (front : List Token) → Rest O I operators item fits Part xs front → length xs ≤ length front
  long xs front s.none = omega arith
  long xs front (s.more {xs = ys} j a b is p fit ps) = let l = long ys b ps in omega (arith, length-append (j ∷ a) b)

  ends_of : (xs : List I) (front : List Token) → Rest O I operators item fits Part xs front → (rest : List Token) → ChainEnds rest → PartEnds (front ++ rest)
  ends_of xs front s.none rest ends = weaker rest ends
  ends_of xs front (s.more {o = o} j a b is p fit ps) rest ends = joined o j ((a ++ b) ++ rest) is

  no_fault : (x : Tree) (own : Option ℕ) (place : ℕ) → fits x ≡ true → or_else own (unless (fits x) place) ≡ own
  no_fault x own place h = rw h (or_none own)

  reaches : (xs : List I) (front : List Token) → Rest O I operators item fits Part xs front → (n : ℕ) → length xs ≤ n → (first : Tree) (found : List I) (own : Option ℕ) (rest : List Token) → ChainEnds rest
      → (end : ℕ) (wrong : Option ℕ) → chain_from operators item fits make part n first found own (at (front ++ rest) end wrong) ≡ settle make first (found ++ xs) own (at rest end wrong)
  unfolding chain_from
  reaches xs front s.none zero few first found own rest ends end wrong = ap (λ l. settle make first l own (at rest end wrong)) (sym (append-nil found))
  reaches xs front s.none (suc n) few first found own rest ends end wrong =
      chain_stop operators item fits make part n first found own (at rest end wrong) (operator_none operators rest end wrong (stops rest ends))
      ∙ ap (settle make first found own) (operator_stays operators rest end wrong (stops rest ends))
      ∙ ap (λ l. settle make first l own (at rest end wrong)) (sym (append-nil found))
  reaches xs front (s.more j a b is p fit ps) zero few first found own rest ends end wrong = absurd (omega arith)
  reaches xs front (s.more {o = o} {x = x} {xs = ys} j a b is p fit ps) (suc n) few first found own rest ends end wrong =
      let place = start (at ((a ++ b) ++ rest) end wrong) in
      let read : part (at ((a ++ b) ++ rest) end wrong) ≡ Ok (x, at (b ++ rest) end wrong) = rw append_assoc (complete x a p (b ++ rest) (ends_of ys b ps rest ends) end wrong) in
      let fewer : length ys ≤ n = omega arith in
      chain_step operators item fits make part n first found own (at (j ∷ ((a ++ b) ++ rest)) end wrong) o (at ((a ++ b) ++ rest) end wrong) (at (b ++ rest) end wrong) x
      (operator_next operators o j ((a ++ b) ++ rest) end wrong is) (operator_past operators o j ((a ++ b) ++ rest) end wrong is) read
      ∙ ap (λ own. chain_from operators item fits make part n first (found ++ item o x ∷ []) own (at (b ++ rest) end wrong)) (no_fault x own place fit)
      ∙ reaches ys b ps n fewer first (found ++ item o x ∷ []) own rest ends end wrong
      ∙ ap (λ l. settle make first l own (at rest end wrong)) (append_assoc found (item o x ∷ []) ys)

  chain_complete : Complete (chain operators item fits make part) (Chain O I operators item fits make Part) ChainEnds
  unfolding chain settle left
  chain_complete x front (s.one p) rest ends end wrong =
      let place = start (at (front ++ rest) end wrong) in
      step (λ first k. chain_from operators item fits make part (left k) first [] (unless (fits first) place) k) (complete x front p rest (weaker rest ends) end wrong)
      ∙ reaches [] [] s.none (length rest) (omega arith) x [] (unless (fits x) place) rest ends end wrong
  chain_complete t front (s.several {x = x} {y = y} {ys = ys} a b p fit ps) rest ends end wrong =
      let place = start (at ((a ++ b) ++ rest) end wrong) in
      let read : part (at ((a ++ b) ++ rest) end wrong) ≡ Ok (x, at (b ++ rest) end wrong) = rw append_assoc (complete x a p (b ++ rest) (ends_of (y ∷ ys) b ps rest ends) end wrong) in
      let fewer : length (y ∷ ys) ≤ length (b ++ rest) = let l = long (y ∷ ys) b ps in omega (arith, length-append b rest) in
      step (λ first k. chain_from operators item fits make part (left k) first [] (unless (fits first) place) k) read
      ∙ reaches (y ∷ ys) b ps (length (b ++ rest)) fewer x [] (unless (fits x) place) rest ends end wrong
      ∙ ap (λ own. settle make x (y ∷ ys) own (at rest end wrong)) (ap (λ f. unless f place) fit)
      ∙ ap (λ k. Ok (make x (y ∷ ys), k)) (noted_none rest end wrong)

-- no number stands there that only a minus may stand before
abbrev IsNotLeast : List Token → Type 0
IsNotLeast front = (rest : List Token) → first_kind (front ++ rest) ≡ Some (kinds.Number limit) → ⊥

unary_unleast : (levels : ℕ) (Lower : Line → Spelling) (x : Tree) (front : List Token) → s.Unary levels Lower x front → IsNotLeast front
unary_unleast levels Lower x front (s.plain (s.number {n = n} k h)) rest e = let same : n ≡ limit = cc in omega arith
unary_unleast levels Lower x front (s.plain (s.name k)) rest e = cc
unary_unleast levels Lower x front (s.plain (s.content k)) rest e = cc
unary_unleast levels Lower x front (s.plain (s.truth k)) rest e = cc
unary_unleast levels Lower x front (s.plain (s.untruth k)) rest e = cc
unary_unleast levels Lower x front (s.plain (s.grouped o c toks io ic some p)) rest e = cc
unary_unleast levels Lower x front (s.lowest is some k) rest e = cc
unary_unleast levels Lower x front (s.minus is some p fit) rest e = cc
unary_unleast levels Lower x front (s.plus is some p fit) rest e = cc

-- no token that may begin with NOT
abbrev IsNotNot : List Token → Type 0
IsNotNot front = (rest : List Token) → is_mark m.Not (first_kind (front ++ rest)) ≡ false

chain_not : {O I : Type 0} {operators : Mark → Option O} {item : O → Tree → I} {fits : Tree → Bool} {make : Tree → List I → Tree} {Part : Spelling}
    → ((x : Tree) (front : List Token) → Part x front → IsNotNot front) → (x : Tree) (front : List Token) → Chain O I operators item fits make Part x front → IsNotNot front
chain_not part_not x front (s.one p) rest = part_not x front p rest
chain_not part_not x front (s.several a b p fit ps) rest = rw append_assoc (part_not _ a p (b ++ rest))

module _ (levels : ℕ) (Lower : Line → Spelling) where
  unary_not : (x : Tree) (front : List Token) → s.Unary levels Lower x front → IsNotNot front
  unary_not x front (s.plain (s.number k h)) rest = rw k refl
  unary_not x front (s.plain (s.name k)) rest = rw k refl
  unary_not x front (s.plain (s.content k)) rest = rw k refl
  unary_not x front (s.plain (s.truth k)) rest = rw k refl
  unary_not x front (s.plain (s.untruth k)) rest = rw k refl
  unary_not x front (s.plain (s.grouped o c toks io ic some p)) rest = rw io refl
  unary_not x front (s.lowest is some k) rest = rw is refl
  unary_not x front (s.minus is some p fit) rest = rw is refl
  unary_not x front (s.plus is some p fit) rest = rw is refl

  sum_not : (x : Tree) (front : List Token) → s.Sum levels Lower x front → IsNotNot front
  sum_not = chain_not (chain_not unary_not)

  test_not : (x : Tree) (front : List Token) → s.Test levels Lower x front → IsNotNot front
  test_not x front (s.alone p) rest = sum_not x front p rest
  test_not x front (s.tailed a b p q) rest = rw append_assoc (sum_not _ a p (b ++ rest))

module _ (levels : ℕ) (lower : Line → Parser Tree) (Lower : Line → Spelling) (below : (line : Line) → Complete (lower line) (Lower line) (EndsOf line))
    (unleast : (x : Tree) (front : List Token) → Lower Signs x front → IsNotLeast front) where
  allowed : 0 < levels → (levels == 0) ≡ false
  allowed some = grind (arith, nat_tests)

  primary_complete : Complete (primary levels lower) (s.Primary levels Lower) (λ _. Unit {0})
  unfolding primary kind next opened expect sees
  primary_complete x front (s.number {n = n} k h) rest ends end wrong = let small : nat_lt n limit ≡ true = grind (arith, nat_tests) in rw (k, small) refl
  primary_complete x front (s.name k) rest ends end wrong = rw k refl
  primary_complete x front (s.content k) rest ends end wrong = rw k refl
  primary_complete x front (s.truth k) rest ends end wrong = rw k refl
  primary_complete x front (s.untruth k) rest ends end wrong = rw k refl
  primary_complete x front (s.grouped o c toks io ic some p) rest ends end wrong =
      let inner : lower Ors (at ((toks ++ c ∷ []) ++ rest) end wrong) ≡ Ok (x, at (c ∷ rest) end wrong) =
      rw append_assoc (below Ors x toks p (c ∷ rest) (rw ic refl) end wrong) in
      let deep = allowed some in
      rw (io, deep) (step (λ t. expect m.Close >> pure t) inner ∙ rw ic refl)

  -- no primary begins with a sign
  no_sign : (sign : Mark) → same_mark m.True sign ≡ false → same_mark m.False sign ≡ false → same_mark m.Open sign ≡ false
      → (x : Tree) (front rest : List Token) (end : ℕ) (wrong : Option ℕ) → s.Primary levels Lower x front → sees sign (at (front ++ rest) end wrong) ≡ false
  unfolding sees kind
  no_sign sign ht hf ho x front rest end wrong (s.number k h) = rw k refl
  no_sign sign ht hf ho x front rest end wrong (s.name k) = rw k refl
  no_sign sign ht hf ho x front rest end wrong (s.content k) = rw k refl
  no_sign sign ht hf ho x front rest end wrong (s.truth k) = rw k ht
  no_sign sign ht hf ho x front rest end wrong (s.untruth k) = rw k hf
  no_sign sign ht hf ho x front rest end wrong (s.grouped o c toks io ic some p) = rw io ho

  minus_other : (k : Option Kind) → (k ≡ Some (kinds.Number limit) → ⊥) → minus_by levels lower k ≡ signed levels lower e.Neg
  minus_other None other = refl
  minus_other (Some (kinds.Mark mark)) other = refl
  minus_other (Some (kinds.Name w)) other = refl
  minus_other (Some (kinds.Text w)) other = refl
  minus_other (Some (kinds.Number n)) other = by_test (n == limit) refl
    where
      by_test : (b : Bool) → (n == limit) ≡ b → if◌then◌else◌ {A = Parser Tree} b (pass >> pure (e.Num least)) (signed levels lower e.Neg) ≡ signed levels lower e.Neg
      by_test true is = let same : n ≡ limit = grind (arith, nat_tests) in absurd (other (ap (λ k. Some (kinds.Number k)) same))
      by_test false is = refl

  signed_complete : (make : Tree → Tree) (o : Tree) (toks : List Token) → Lower Signs o toks → fits_number o ≡ true → (rest : List Token) (end : ℕ) (wrong : Option ℕ)
      → signed levels lower make (at (toks ++ rest) end wrong) ≡ Ok (make o, at rest end wrong)
  unfolding signed
  signed_complete make o toks p fit rest end wrong =
      let k = at (toks ++ rest) end wrong in
      step (λ o. note (unless (fits_number o) (start k)) >> pure (make o)) (below Signs o toks p rest tt end wrong)
      ∙ rw fit (ap (λ k. Ok (make o, k)) (noted_none rest end wrong))

  unary_complete : Complete (unary levels lower) (s.Unary levels Lower) (λ _. Unit {0})
  unfolding unary minus plus kind next sees
  unary_complete x front (s.plain p) rest ends end wrong =
      rw (no_sign m.Minus refl refl refl x front rest end wrong p, no_sign m.Plus refl refl refl x front rest end wrong p) (primary_complete x front p rest ends end wrong)
  unary_complete x front (s.lowest is some k) rest ends end wrong = let deep = allowed some in rw (is, deep, k) refl
  unary_complete x front (s.minus {s = t} {operand = o} {toks = toks} is some p fit) rest ends end wrong =
      let deep = allowed some in
      let k = at (toks ++ rest) end wrong in
      rw (is, deep) (ap (λ (p : Parser Tree). p k) (minus_other (kind k) (unleast o toks p rest)) ∙ signed_complete e.Neg o toks p fit rest end wrong)
  unary_complete x front (s.plus {s = t} {operand = o} {toks = toks} is some p fit) rest ends end wrong =
      let deep = allowed some in
      rw (is, deep) (signed_complete e.Plus o toks p fit rest end wrong)

  product_complete : Complete (product levels lower) (s.Product levels Lower) (Ends product_goes)
  unfolding product
  product_complete = chain_complete Multiplicative (Multiplicative × Tree) multiplicative_of (λ o x. (o, x)) fits_number e.Product (unary levels lower) (s.Unary levels Lower)
      (Ends product_goes) (λ _. Unit {0}) (λ rest h. tt) (λ rest h. no_operator multiplicative_of product_goes none (first_kind rest) h) (λ o j rest is. tt) unary_complete
    where
      none : (mark : Mark) → product_goes mark ≡ false → multiplicative_of mark ≡ None
      none m.Times h = absurd (cc)
      none m.Divide h = absurd (cc)
      none _ h = refl

  sum_complete : Complete (sum levels lower) (s.Sum levels Lower) (Ends sum_goes)
  unfolding sum
  sum_complete = chain_complete Additive (Additive × Tree) additive_of (λ o x. (o, x)) fits_number e.Sum (product levels lower) (s.Product levels Lower)
      (Ends sum_goes) (Ends product_goes) (λ rest h. fewer sum_goes product_goes less (first_kind rest) h) (λ rest h. no_operator additive_of sum_goes none (first_kind rest) h)
      (λ o j rest is. ends_before additive_of product_goes before o (Some j.kind) is) product_complete
    where
      less : (mark : Mark) → sum_goes mark ≡ false → product_goes mark ≡ false
      less m.Plus h = refl
      less m.Minus h = refl
      less m.Times h = absurd (cc)
      less m.Divide h = absurd (cc)
      less _ h = refl

      none : (mark : Mark) → sum_goes mark ≡ false → additive_of mark ≡ None
      none m.Plus h = absurd (cc)
      none m.Minus h = absurd (cc)
      none _ h = refl

      before : (mark : Mark) (o : Additive) → additive_of mark ≡ Some o → product_goes mark ≡ false
      before m.Plus o h = refl
      before m.Minus o h = refl
      before _ o h = absurd (cc)

  sum_ends : (rest : List Token) → Ends test_goes rest → Ends sum_goes rest
  sum_ends rest h = fewer test_goes sum_goes less (first_kind rest) h
    where
      less : (mark : Mark) → test_goes mark ≡ false → sum_goes mark ≡ false
      less m.Plus h = absurd (cc)
      less m.Minus h = absurd (cc)
      less m.Times h = absurd (cc)
      less m.Divide h = absurd (cc)
      less _ h = refl

  between_complete : (negated : Bool) (x low high : Tree) (place : ℕ) (t a : Token) (mid back : List Token) → s.Sum levels Lower low mid → Is m.And a → s.Sum levels Lower high back
      → fits_number x ≡ true → fits_number low ≡ true → fits_number high ≡ true → (rest : List Token) → Ends test_goes rest → (end : ℕ) (wrong : Option ℕ)
      → between levels lower negated x place (at (t ∷ ((mid ++ a ∷ back) ++ rest)) end wrong) ≡ Ok (e.Between negated x low high, at rest end wrong)
  unfolding between next
  between_complete negated x low high place t a mid back p ia q fx fl fh rest ends end wrong =
      let i = at ((mid ++ a ∷ back) ++ rest) end wrong in
      let low_at = start i in
      let one : sum levels lower i ≡ Ok (low, at (a ∷ back ++ rest) end wrong) = rw append_assoc (sum_complete low mid p (a ∷ back ++ rest) (rw ia refl) end wrong) in
      let high_at = start (at (back ++ rest) end wrong) in
      step (λ low. expect m.And >> (here >>= λ high_at. sum levels lower >>= λ high. note (unless (fits_number x) place)
      >> note (unless (fits_number low) low_at) >> note (unless (fits_number high) high_at) >> pure (e.Between negated x low high))) one
      ∙ step (λ _. here >>= λ high_at. sum levels lower >>= λ high. note (unless (fits_number x) place)
      >> note (unless (fits_number low) low_at) >> note (unless (fits_number high) high_at) >> pure (e.Between negated x low high)) (meets m.And a (back ++ rest) end wrong ia refl)
      ∙ step (λ high. note (unless (fits_number x) place)
      >> note (unless (fits_number low) low_at) >> note (unless (fits_number high) high_at) >> pure (e.Between negated x low high)) (sum_complete high back q rest (sum_ends rest ends) end wrong)
      ∙ rw (fx, fl, fh) (simp noted_none)

  compared_complete : (op : Comparison) (x y : Tree) (place : ℕ) (t : Token) (back : List Token) → s.Sum levels Lower y back → fits_comparison op x ≡ true → fits_comparison op y ≡ true
      → (rest : List Token) → Ends test_goes rest → (end : ℕ) (wrong : Option ℕ)
      → compared levels lower op x place (at (t ∷ (back ++ rest)) end wrong) ≡ Ok (e.Compare op x y, at rest end wrong)
  unfolding compared next
  compared_complete op x y place t back p fx fy rest ends end wrong =
      let right_at = start (at (back ++ rest) end wrong) in
      step (λ right. note (unless (fits_comparison op x) place) >> note (unless (fits_comparison op right) right_at) >> pure (e.Compare op x right))
      (sum_complete y back p rest (sum_ends rest ends) end wrong)
      ∙ ap (λ f. (note (unless f place) >> note (unless (fits_comparison op y) right_at) >> pure (e.Compare op x y)) (at rest end wrong)) fx
      ∙ ap (λ f. (note None >> note (unless f right_at) >> pure (e.Compare op x y)) (at rest end wrong)) fy
      ∙ simp noted_none

  named_name : (make : List ℕ → Tree) (w : List ℕ) (place : ℕ) (i : Input) → named make (e.Name w) place i ≡ Ok (make w, i)
  unfolding named
  named_name make w place i =
      let node : out-Tree (e.Name w) ≡ Tree-F.Name w = ap out-Tree (sym (rolls-Name w)) ∙ out-roll-Tree (Tree-F.Name w) in
      ap (λ f. named_by make (e.Name w) place f i) node

  texts_reach : (ws : List (List ℕ)) (w : List ℕ) (t : Token) (front : List Token) → s.Texts (w ∷ ws) (t ∷ front) → (n : ℕ) → length ws ≤ n → (found : List (List ℕ)) (c : Token) (rest : List Token) → Is m.Close c
      → (end : ℕ) (wrong : Option ℕ) → texts_from n found (at (front ++ c ∷ rest) end wrong) ≡ Ok (found ++ ws, at (c ∷ rest) end wrong)
  unfolding texts_from next
  texts_reach ws w t front (s.last is) zero few found c rest ic end wrong = ap (λ l. Ok (l, at (c ∷ rest) end wrong)) (sym (append-nil found))
  texts_reach ws w t front (s.last is) (suc n) few found c rest ic end wrong =
      uneaten m.Comma (λ more. if more then (text >>= λ w. texts_from n (found ++ w ∷ [])) else pure found) (at (c ∷ rest) end wrong) (not_seen c rest end wrong m.Close m.Comma ic refl)
      ∙ ap (λ l. Ok (l, at (c ∷ rest) end wrong)) (sym (append-nil found))
  texts_reach ws w t front (s.more is ik (s.last {w = v} {t = u} iu)) zero few found c rest ic end wrong = absurd (omega arith)
  texts_reach ws w t front (s.more is ik (s.more iu iv ts)) zero few found c rest ic end wrong = absurd (omega arith)
  texts_reach ws w t front (s.more {c = k} is ik (s.last {w = v} {t = u} iu)) (suc n) few found c rest ic end wrong =
      eaten m.Comma (λ more. if more then (text >>= λ w. texts_from n (found ++ w ∷ [])) else pure found) (at (k ∷ u ∷ c ∷ rest) end wrong) (its_seen k (u ∷ c ∷ rest) end wrong m.Comma ik refl)
      ∙ step (λ w. texts_from n (found ++ w ∷ [])) (text_read v u (c ∷ rest) end wrong iu)
      ∙ texts_reach [] v u [] (s.last iu) n (omega arith) (found ++ v ∷ []) c rest ic end wrong
      ∙ ap (λ l. Ok (l, at (c ∷ rest) end wrong)) (append-nil (found ++ v ∷ []))
  texts_reach ws w t front (s.more {c = k} is ik (s.more {w = v} {ws = vs} {t = u} {c = d} {toks = toks} iu id ts)) (suc n) few found c rest ic end wrong =
      let fewer : length vs ≤ n = omega arith in
      eaten m.Comma (λ more. if more then (text >>= λ w. texts_from n (found ++ w ∷ [])) else pure found) (at (k ∷ u ∷ ((d ∷ toks) ++ c ∷ rest)) end wrong)
      (its_seen k (u ∷ ((d ∷ toks) ++ c ∷ rest)) end wrong m.Comma ik refl)
      ∙ step (λ w. texts_from n (found ++ w ∷ [])) (text_read v u ((d ∷ toks) ++ c ∷ rest) end wrong iu)
      ∙ texts_reach vs v u (d ∷ toks) (s.more iu id ts) n fewer (found ++ v ∷ []) c rest ic end wrong
      ∙ ap (λ l. Ok (l, at (c ∷ rest) end wrong)) (append_assoc found (v ∷ []) vs)

  texts_long : (ws : List (List ℕ)) (front : List Token) → s.Texts ws front → length ws ≤ length front
  texts_long ws front (s.last is) = omega arith
  texts_long ws front (s.more {ws = vs} {toks = toks} is ik ts) = let l = texts_long vs toks ts in omega arith

  texts_complete : (ws : List (List ℕ)) (front : List Token) → s.Texts ws front → (c : Token) (rest : List Token) → Is m.Close c → (end : ℕ) (wrong : Option ℕ)
      → texts (at (front ++ c ∷ rest) end wrong) ≡ Ok (ws, at (c ∷ rest) end wrong)
  unfolding texts left
  texts_complete ws front (s.last {w = w} {t = t} is) c rest ic end wrong =
      step (λ first k. texts_from (left k) (first ∷ []) k) (text_read w t (c ∷ rest) end wrong is)
      ∙ texts_reach [] w t [] (s.last is) (length (c ∷ rest)) (omega arith) (w ∷ []) c rest ic end wrong
  texts_complete ws front (s.more {w = w} {ws = vs} {t = t} {c = k} {toks = toks} is ik ts) c rest ic end wrong =
      let fewer : length vs ≤ length ((k ∷ toks) ++ c ∷ rest) = let l = texts_long vs toks ts in omega (arith, length-append (k ∷ toks) (c ∷ rest)) in
      step (λ first k. texts_from (left k) (first ∷ []) k) (text_read w t ((k ∷ toks) ++ c ∷ rest) end wrong is)
      ∙ texts_reach vs w t (k ∷ toks) (s.more is ik ts) (length ((k ∷ toks) ++ c ∷ rest)) fewer (w ∷ []) c rest ic end wrong

  membership_complete : (negated : Bool) (w : List ℕ) (ws : List (List ℕ)) (place : ℕ) (t o c : Token) (list rest : List Token) → Is m.Open o → s.Texts ws list → Is m.Close c → (end : ℕ) (wrong : Option ℕ)
      → membership negated (e.Name w) place (at (t ∷ o ∷ ((list ++ c ∷ []) ++ rest)) end wrong) ≡ Ok (e.In negated w ws, at rest end wrong)
  unfolding membership in_of next
  membership_complete negated w ws place t o c list rest io ts ic end wrong =
      let read : texts (at ((list ++ c ∷ []) ++ rest) end wrong) ≡ Ok (ws, at (c ∷ rest) end wrong) = rw append_assoc (texts_complete ws list ts c rest ic end wrong) in
      step (λ _. texts >>= λ list. expect m.Close >> named (in_of negated list) (e.Name w) place) (meets m.Open o ((list ++ c ∷ []) ++ rest) end wrong io refl)
      ∙ step (λ list. expect m.Close >> named (in_of negated list) (e.Name w) place) read
      ∙ step (λ _. named (in_of negated ws) (e.Name w) place) (meets m.Close c rest end wrong ic refl)
      ∙ named_name (in_of negated ws) w place (at rest end wrong)

  no_escape : (rest : List Token) → Ends test_goes rest → (end : ℕ) (wrong : Option ℕ) → sees m.Escape (at rest end wrong) ≡ false
  unfolding sees kind
  no_escape rest h end wrong = no_mark m.Escape test_goes none (first_kind rest) h
    where
      none : (mark : Mark) → test_goes mark ≡ false → same_mark mark m.Escape ≡ false
      none m.Escape h = absurd (cc)
      none _ h = refl

  likeness_complete : (negated : Bool) (w pattern : List ℕ) (place : ℕ) (t p : Token) (rest : List Token) → IsText pattern p → Ends test_goes rest → (end : ℕ) (wrong : Option ℕ)
      → likeness negated (e.Name w) place (at (t ∷ p ∷ rest) end wrong) ≡ Ok (e.Like negated w pattern None, at rest end wrong)
  unfolding likeness like_of next
  likeness_complete negated w pattern place t p rest ip ends end wrong =
      step (λ pattern. eat m.Escape >>= λ more. if more then escaped negated (e.Name w) place pattern else named (like_of negated pattern None) (e.Name w) place) (text_read pattern p rest end wrong ip)
      ∙ uneaten m.Escape (λ more. if more then escaped negated (e.Name w) place pattern else named (like_of negated pattern None) (e.Name w) place) (at rest end wrong) (no_escape rest ends end wrong)
      ∙ named_name (like_of negated pattern None) w place (at rest end wrong)

  escaped_complete : (negated : Bool) (w pattern escape : List ℕ) (c : ℕ) (place : ℕ) (t p x q : Token) (rest : List Token) → IsText pattern p → Is m.Escape x → IsText escape q → single escape ≡ Some c
      → (end : ℕ) (wrong : Option ℕ) → likeness negated (e.Name w) place (at (t ∷ p ∷ x ∷ q ∷ rest) end wrong) ≡ Ok (e.Like negated w pattern (Some c), at rest end wrong)
  unfolding likeness like_of next escaped
  escaped_complete negated w pattern escape c place t p x q rest ip ix iq one end wrong =
      let where_escape = start (at (q ∷ rest) end wrong) in
      step (λ pattern. eat m.Escape >>= λ more. if more then escaped negated (e.Name w) place pattern else named (like_of negated pattern None) (e.Name w) place) (text_read pattern p (x ∷ q ∷ rest) end wrong ip)
      ∙ eaten m.Escape (λ more. if more then escaped negated (e.Name w) place pattern else named (like_of negated pattern None) (e.Name w) place) (at (x ∷ q ∷ rest) end wrong)
      (its_seen x (q ∷ rest) end wrong m.Escape ix refl)
      ∙ step (λ escape. escaped_by negated (e.Name w) place pattern escape where_escape) (text_read escape q rest end wrong iq)
      ∙ step (λ tree. note (unless (is_some (single escape)) where_escape) >> pure tree) (named_name (like_of negated pattern (single escape)) w place (at rest end wrong))
      ∙ ap (λ o. (note (unless (is_some o) where_escape) >> pure (e.Like negated w pattern o)) (at rest end wrong)) one
      ∙ ap (λ k. Ok (e.Like negated w pattern (Some c), k)) (noted_none rest end wrong)

  predicate_complete : (negated : Bool) (x y : Tree) (back : List Token) → s.Predicate levels Lower negated x y back → (place : ℕ) (rest : List Token) → Ends test_goes rest → (end : ℕ) (wrong : Option ℕ)
      → (if negated then negated_by levels lower x place (first_kind (back ++ rest)) else tail_by levels lower x place (first_kind (back ++ rest))) (at (back ++ rest) end wrong) ≡ Ok (y, at rest end wrong)
  unfolding between next membership likeness
  predicate_complete true x y back (s.between b a mid high ib p ia q fx fl fh) place rest ends end wrong = rw ib (between_complete true x _ _ place b a mid high p ia q fx fl fh rest ends end wrong)
  predicate_complete true x y back (s.membership i o c list ii io ts ic) place rest ends end wrong = rw ii (membership_complete true _ _ place i o c list rest io ts ic end wrong)
  predicate_complete true x y back (s.likeness {l = l} {p = p} il ip) place rest ends end wrong = rw il (likeness_complete true _ _ place l p rest ip ends end wrong)
  predicate_complete true x y back (s.escaped {l = l} {p = p} {s = t} {q = q} il ip ix iq one) place rest ends end wrong = rw il (escaped_complete true _ _ _ _ place l p t q rest ip ix iq one end wrong)
  predicate_complete false x y back (s.between b a mid high ib p ia q fx fl fh) place rest ends end wrong = rw ib (between_complete false x _ _ place b a mid high p ia q fx fl fh rest ends end wrong)
  predicate_complete false x y back (s.membership i o c list ii io ts ic) place rest ends end wrong = rw ii (membership_complete false _ _ place i o c list rest io ts ic end wrong)
  predicate_complete false x y back (s.likeness {l = l} {p = p} il ip) place rest ends end wrong = rw il (likeness_complete false _ _ place l p rest ip ends end wrong)
  predicate_complete false x y back (s.escaped {l = l} {p = p} {s = t} {q = q} il ip ix iq one) place rest ends end wrong = rw il (escaped_complete false _ _ _ _ place l p t q rest ip ix iq one end wrong)

  compares : (x y : Tree) (op : Comparison) (place : ℕ) (k : Option Kind) → operator_in comparison_of k ≡ Some op → tail_by levels lower x place k ≡ compared levels lower op x place
  compares x y op place None h = absurd (cc)
  compares x y op place (Some (kinds.Name w)) h = absurd (cc)
  compares x y op place (Some (kinds.Number n)) h = absurd (cc)
  compares x y op place (Some (kinds.Text w)) h = absurd (cc)
  compares x y op place (Some (kinds.Mark m.Equal)) h = let same : comparisons.Equal ≡ op = cc in ap (λ o. compared levels lower o x place) same
  compares x y op place (Some (kinds.Mark m.NotEqual)) h = let same : comparisons.NotEqual ≡ op = cc in ap (λ o. compared levels lower o x place) same
  compares x y op place (Some (kinds.Mark m.Less)) h = let same : comparisons.Less ≡ op = cc in ap (λ o. compared levels lower o x place) same
  compares x y op place (Some (kinds.Mark m.LessOrEqual)) h = let same : comparisons.LessOrEqual ≡ op = cc in ap (λ o. compared levels lower o x place) same
  compares x y op place (Some (kinds.Mark m.Greater)) h = let same : comparisons.Greater ≡ op = cc in ap (λ o. compared levels lower o x place) same
  compares x y op place (Some (kinds.Mark m.GreaterOrEqual)) h = let same : comparisons.GreaterOrEqual ≡ op = cc in ap (λ o. compared levels lower o x place) same
  compares x y op place (Some (kinds.Mark _)) h = absurd (cc)

  tail_complete : (x y : Tree) (back : List Token) → s.Tail levels Lower x y back → (place : ℕ) (rest : List Token) → Ends test_goes rest → (end : ℕ) (wrong : Option ℕ)
      → tail_by levels lower x place (first_kind (back ++ rest)) (at (back ++ rest) end wrong) ≡ Ok (y, at rest end wrong)
  unfolding null_test negated_tail next kind
  tail_complete x t back (s.compared {y = y} {op = op} {j = j} {back = after} is p fx fy) place rest ends end wrong =
      ap (λ (p : Parser Tree). p (at (j ∷ (after ++ rest)) end wrong)) (compares x y op place (Some j.kind) is) ∙ compared_complete op x y place j after p fx fy rest ends end wrong
  tail_complete x y back (s.stated p) place rest ends end wrong = predicate_complete false x y back p place rest ends end wrong
  tail_complete x y back (s.negated {n = n} {toks = toks} is p) place rest ends end wrong = rw is (predicate_complete true x y toks p place rest ends end wrong)
  tail_complete x y back (s.null {w = w} {i = i} {n = n} ii in_) place rest ends end wrong =
      rw ii (uneaten m.Not (λ negated. expect m.Null >> named (e.IsNull negated) (e.Name w) place) (at (n ∷ rest) end wrong) (not_seen n rest end wrong m.Null m.Not in_ refl)
      ∙ step (λ _. named (e.IsNull false) (e.Name w) place) (meets m.Null n rest end wrong in_ refl) ∙ named_name (e.IsNull false) w place (at rest end wrong))
  tail_complete x y back (s.not_null {w = w} {i = i} {d = d} {n = n} ii id in_) place rest ends end wrong =
      rw ii (eaten m.Not (λ negated. expect m.Null >> named (e.IsNull negated) (e.Name w) place) (at (d ∷ n ∷ rest) end wrong) (its_seen d (n ∷ rest) end wrong m.Not id refl)
      ∙ step (λ _. named (e.IsNull true) (e.Name w) place) (meets m.Null n rest end wrong in_ refl) ∙ named_name (e.IsNull true) w place (at rest end wrong))

  -- what goes on after a sum is no operator of it
  tail_ends : (x y : Tree) (back : List Token) → s.Tail levels Lower x y back → (rest : List Token) → Ends sum_goes (back ++ rest)
  tail_ends x y back (s.compared {op = op} {j = j} is p fx fy) rest = ends_before comparison_of sum_goes before op (Some j.kind) is
    where
      before : (mark : Mark) (o : Comparison) → comparison_of mark ≡ Some o → sum_goes mark ≡ false
      before m.Equal o h = refl
      before m.NotEqual o h = refl
      before m.Less o h = refl
      before m.LessOrEqual o h = refl
      before m.Greater o h = refl
      before m.GreaterOrEqual o h = refl
      before _ o h = absurd (cc)
  tail_ends x y back (s.stated (s.between b a mid high ib p ia q fx fl fh)) rest = rw ib refl
  tail_ends x y back (s.stated (s.membership i o c list ii io ts ic)) rest = rw ii refl
  tail_ends x y back (s.stated (s.likeness il ip)) rest = rw il refl
  tail_ends x y back (s.stated (s.escaped il ip ix iq one)) rest = rw il refl
  tail_ends x y back (s.negated is p) rest = rw is refl
  tail_ends x y back (s.null ii in_) rest = rw ii refl
  tail_ends x y back (s.not_null ii id in_) rest = rw ii refl

  no_tail : (x : Tree) (place : ℕ) (k : Option Kind) → goes_on test_goes k ≡ false → (i : Input) → tail_by levels lower x place k i ≡ Ok (x, i)
  no_tail x place None h i = refl
  no_tail x place (Some (kinds.Name w)) h i = refl
  no_tail x place (Some (kinds.Number n)) h i = refl
  no_tail x place (Some (kinds.Text w)) h i = refl
  no_tail x place (Some (kinds.Mark m.Equal)) h i = absurd (cc)
  no_tail x place (Some (kinds.Mark m.NotEqual)) h i = absurd (cc)
  no_tail x place (Some (kinds.Mark m.Less)) h i = absurd (cc)
  no_tail x place (Some (kinds.Mark m.LessOrEqual)) h i = absurd (cc)
  no_tail x place (Some (kinds.Mark m.Greater)) h i = absurd (cc)
  no_tail x place (Some (kinds.Mark m.GreaterOrEqual)) h i = absurd (cc)
  no_tail x place (Some (kinds.Mark m.Between)) h i = absurd (cc)
  no_tail x place (Some (kinds.Mark m.In)) h i = absurd (cc)
  no_tail x place (Some (kinds.Mark m.Like)) h i = absurd (cc)
  no_tail x place (Some (kinds.Mark m.Is)) h i = absurd (cc)
  no_tail x place (Some (kinds.Mark m.Not)) h i = absurd (cc)
  no_tail x place (Some (kinds.Mark _)) h i = refl

  test_complete : Complete (tested levels lower) (s.Test levels Lower) (Ends test_goes)
  unfolding tested kind
  test_complete x front (s.alone p) rest ends end wrong =
      let place = start (at (front ++ rest) end wrong) in
      step (λ operand. peek >>= tail_by levels lower operand place) (sum_complete x front p rest (sum_ends rest ends) end wrong)
      ∙ no_tail x place (first_kind rest) ends (at rest end wrong)
  test_complete y front (s.tailed {x = x} a b p q) rest ends end wrong =
      let place = start (at ((a ++ b) ++ rest) end wrong) in
      let first : sum levels lower (at ((a ++ b) ++ rest) end wrong) ≡ Ok (x, at (b ++ rest) end wrong) = rw append_assoc (sum_complete x a p (b ++ rest) (tail_ends x y b q rest) end wrong) in
      step (λ operand. peek >>= tail_by levels lower operand place) first ∙ tail_complete x y b q place rest ends end wrong

  -- no test begins with NOT
  no_not : (x : Tree) (front rest : List Token) (end : ℕ) (wrong : Option ℕ) → s.Test levels Lower x front → sees m.Not (at (front ++ rest) end wrong) ≡ false
  unfolding sees kind
  no_not x front rest end wrong t = test_not levels Lower x front t rest

  condition_complete : Complete (condition levels lower) (s.Condition levels Lower) (Ends test_goes)
  unfolding condition denied sees kind next
  condition_complete x front (s.tested p) rest ends end wrong = rw (no_not x front rest end wrong p) (test_complete x front p rest ends end wrong)
  condition_complete x front (s.denied {n = t} {x = o} {toks = toks} is some p fit) rest ends end wrong =
      let deep = allowed some in
      let k = at (toks ++ rest) end wrong in
      rw (is, deep) (step (λ o. note (unless (fits_truth o) (start k)) >> pure (e.Not o)) (below Nots o toks p rest ends end wrong)
      ∙ rw fit (ap (λ k. Ok (e.Not o, k)) (noted_none rest end wrong)))

  both_complete : Complete (both levels lower) (s.Both levels Lower) (Ends both_goes)
  unfolding both
  both_complete = chain_complete (Unit {0}) Tree and_of (λ o x. x) fits_truth (λ first rest. e.All (first ∷ rest)) (condition levels lower) (s.Condition levels Lower)
      (Ends both_goes) (Ends test_goes) (λ rest h. fewer both_goes test_goes less (first_kind rest) h) (λ rest h. no_operator and_of both_goes none (first_kind rest) h)
      (λ o j rest is. ends_before and_of test_goes before o (Some j.kind) is) condition_complete
    where
      less : (mark : Mark) → both_goes mark ≡ false → test_goes mark ≡ false
      less m.And h = refl
      less mark h = h

      none : (mark : Mark) → both_goes mark ≡ false → and_of mark ≡ None
      none m.And h = absurd (cc)
      none _ h = refl

      before : (mark : Mark) (o : Unit {0}) → and_of mark ≡ Some o → test_goes mark ≡ false
      before m.And o h = refl
      before _ o h = absurd (cc)

  either_complete : Complete (either levels lower) (s.Either levels Lower) (Ends either_goes)
  unfolding either
  either_complete = chain_complete (Unit {0}) Tree or_of (λ o x. x) fits_truth (λ first rest. e.AnyOf (first ∷ rest)) (both levels lower) (s.Both levels Lower)
      (Ends either_goes) (Ends both_goes) (λ rest h. fewer either_goes both_goes less (first_kind rest) h) (λ rest h. no_operator or_of either_goes none (first_kind rest) h)
      (λ o j rest is. ends_before or_of both_goes before o (Some j.kind) is) both_complete
    where
      less : (mark : Mark) → either_goes mark ≡ false → both_goes mark ≡ false
      less m.Or h = refl
      less mark h = h

      none : (mark : Mark) → either_goes mark ≡ false → or_of mark ≡ None
      none m.Or h = absurd (cc)
      none _ h = refl

      before : (mark : Mark) (o : Unit {0}) → or_of mark ≡ Some o → both_goes mark ≡ false
      before m.Or o h = refl
      before _ o h = absurd (cc)

below_unleast : (n : ℕ) (x : Tree) (front : List Token) → s.Below n Signs x front → IsNotLeast front
below_unleast zero x front h = absurd h
below_unleast (suc n) x front h = unary_unleast n (s.Below n) x front h

below_complete : (n : ℕ) (line : Line) → Complete (below n line) (s.Below n line) (EndsOf line)
unfolding below
below_complete zero line x front h rest ends end wrong = absurd h
below_complete (suc n) Ors x front h rest ends end wrong = either_complete n (below n) (s.Below n) (below_complete n) (below_unleast n) x front h rest ends end wrong
below_complete (suc n) Nots x front h rest ends end wrong = condition_complete n (below n) (s.Below n) (below_complete n) (below_unleast n) x front h rest ends end wrong
below_complete (suc n) Signs x front h rest ends end wrong = unary_complete n (below n) (s.Below n) (below_complete n) (below_unleast n) x front h rest ends end wrong

-- The law: what is spelled is read.
pub spelled_reads : (n : ℕ) (x : Tree) (front : List Token) → s.Either n (s.Below n) x front → (end : ℕ)
    → either n (below n) (record { tokens = front; end = end; wrong = None }) ≡ Ok (x, record { tokens = []; end = end; wrong = None })
spelled_reads n x front h end = rw append-nil at (either_complete n (below n) (s.Below n) (below_complete n) (below_unleast n) x front h [] refl end None)
