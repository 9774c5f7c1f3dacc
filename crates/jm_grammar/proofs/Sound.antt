-- What is read is spelled so.
use Rattle.std.proofs.Common.{◌≡◌, ℕ, zero, suc, ◌<◌, Bool, true, false, List, [], ◌∷◌, ◌++◌, Option, Some, None, Ok, refl, ap, subst, sym, ◌∙◌, arith, append_assoc, append-nil, if◌then◌else◌, pos, nat_lt, ◌==◌, is_some}
use Rattle.std.proofs.lemmas.Bool.Decides.{nat_tests}
use Rattle.jm_base.specs.declared.refusal.Cause.TheVariants as causes
use Rattle.jm_lexer.specs.declared.token.Mark.{Mark}
use Rattle.jm_lexer.specs.declared.token.Mark.TheVariants as m
use Rattle.jm_lexer.specs.declared.token.Kind.{Kind}
use Rattle.jm_lexer.specs.declared.token.Kind.TheVariants as kinds
use Rattle.jm_lexer.specs.declared.token.Token.{Token}
use Rattle.jm_tree.specs.declared.tree.Comparison.{Comparison}
use Rattle.jm_tree.specs.declared.tree.Comparison.TheVariants as comparisons
use Rattle.jm_tree.specs.declared.tree.Tree.{Tree, out-Tree, roll-Tree, roll-out-Tree}
use Rattle.jm_tree.specs.declared.tree.Tree.TheOpen.{Tree-F}
use Rattle.jm_tree.specs.declared.tree.Tree.TheVariants as e
use Rattle.jm_tree.specs.declared.tree.Tree.TheVariants.{rolls-Name}
use Rattle.jm_tree.specs.Sorts.{fits_number, fits_truth, fits_comparison, single}
use Rattle.jm_lexer.specs.Words.{if_some}
use Rattle.jm_tree.specs.Input.{start, Input, Outcome, Parser, ◌>>=◌, ◌>>◌, pure, pass, stop, kind, next, sees, expect, note, noted, or_else, unless, left, eat, here, peek, text}
use Rattle.jm_tree.specs.Operators.{operator_in, Line, Ors, Nots, Signs, least, additive_of, multiplicative_of, comparison_of, and_of, or_of}
use Rattle.jm_lexer.specs.Words.{limit}
use Rattle.jm_tree.specs.FaultOrder.{settle, chain_from, chain, named, named_by, in_of, like_of, null_test, texts_from, texts, membership, escaped_by, escaped, likeness, opened, marked, primary_by, primary, deeper, signed, minus, minus_by, plus, unary, product, sum, between, compared, negated_by, negated_tail, tail, tail_by, tested, condition, denied, both, either, below}
use Rattle.jm_tree.specs.Spells as s
use Rattle.jm_tree.specs.Spells.{Spelling, Is, IsText, Operates, Rest, Chain}
use Rattle.jm_grammar.proofs.Steps.{Took, took_none, took_both, took_note, note_late, after_step, after_eat, after_choice, ok_same, took_noted, clean_before, both_none, fits_unless, Passed, passed, seen, expected, texted}

-- these tokens were taken, and spell the tree if no kind is wrong
pub record Reading (S : Spelling) (x : Tree) (i j : Input) : Type 0 where
  pub front : List Token
  pub took : Took i j front
  pub spells : j.wrong ≡ None → S x front

abbrev pub Sound : Parser Tree → Spelling → Type 0
Sound p S = (i j : Input) (x : Tree) → p i ≡ Ok (x, j) → Reading S x i j

ends : {S : Spelling} {x y : Tree} {i j k : Input} → ◌≡◌ {A = Outcome Tree} (Ok (x, j)) (Ok (y, k)) → Reading S x i j → Reading S y i k
ends {S} {x} {y} {i} {j} {k} h r = let e = ok_same h in rw (← e.0) (rw (← e.1) r)

-- one token was taken
alone : {S : Spelling} {x y : Tree} {i j : Input} {k : Kind} → Passed i k → ◌≡◌ {A = Outcome Tree} (Ok (x, next i)) (Ok (y, j)) → ((t : Token) → t.kind ≡ k → S x (t ∷ [])) → Reading S y i j
alone p h spelled = ends h (record { front = p.token ∷ []; took = p.took; spells = λ _. spelled p.token p.is })

along : (S : Spelling) {x y : Tree} {front : List Token} → x ≡ y → S y front → S x front
along S same h = rw same h

along_both : (S : Tree → Spelling) {a b x y : Tree} {front : List Token} → a ≡ b → x ≡ y → S b y front → S a x front
along_both S left same h = rw left (rw same h)

along_texts : {ws vs : List (List ℕ)} {front : List Token} → ws ≡ vs → s.Texts vs front → s.Texts ws front
along_texts same h = rw same h

some_none : (at : ℕ) → Some at ≡ None → ⊥
some_none at h = cc

-- what a chain took, and what is left to settle
record Linked (O I : Type 0) (operators : Mark → Option O) (item : O → Tree → I) (fits : Tree → Bool) (make : Tree → List I → Tree) (Part : Spelling)
    (first : Tree) (found : List I) (own : Option ℕ) (y : Tree) (i j : Input) : Type 0 where
  xs : List I
  late : Option ℕ
  mid : Input
  front : List Token
  took : Took i mid front
  empty : xs ≡ [] → front ≡ []
  fit : late ≡ None → own ≡ None
  parts : late ≡ None → mid.wrong ≡ None → Rest O I operators item fits Part xs front
  settled : settle make first (found ++ xs) late mid ≡ Ok (y, j)

module _ (O I : Type 0) (operators : Mark → Option O) (item : O → Tree → I) (fits : Tree → Bool) (make : Tree → List I → Tree) (part : Parser Tree) (Part : Spelling) (sound : Sound part Part) where
  fit_of : (x : Tree) (at : ℕ) (own : Option ℕ) → or_else own (unless (fits x) at) ≡ None → (own ≡ None) × (fits x ≡ true)
  fit_of x at own h = let both = both_none own (unless (fits x) at) h in (both.0, fits_unless (fits x) at both.1)

  unlinked : (first : Tree) (found : List I) (own : Option ℕ) (i j : Input) (y : Tree) → settle make first found own i ≡ Ok (y, j)
      → Linked O I operators item fits make Part first found own y i j
  unlinked first found own i j y h =
      record { xs = []; late = own; mid = i; front = []; took = took_none i; empty = λ _. refl; fit = λ h. h; parts = λ _ _. s.none; settled = rw append-nil h }

  not_empty : (x : I) (xs : List I) (front : List Token) → x ∷ xs ≡ [] → front ≡ []
  not_empty x xs front h = absurd (cc)

  chain_from_sound : (n : ℕ) (first : Tree) (found : List I) (own : Option ℕ) (i j : Input) (y : Tree) → chain_from operators item fits make part n first found own i ≡ Ok (y, j)
      → Linked O I operators item fits make Part first found own y i j
  unfolding chain_from
  chain_from_sound zero first found own i j y h = unlinked first found own i j y h
  chain_from_sound (suc n) first found own i j y h =
      after_choice operators (λ a. if_some a (settle make first found own) (λ o. here >>= λ at. part >>= λ x.
      chain_from operators item fits make part n first (found ++ item o x ∷ []) (or_else own (unless (fits x) at)))) i (y, j) h
      (λ o p h. after_step (part (next i)) (λ x. chain_from operators item fits make part n first (found ++ item o x ∷ []) (or_else own (unless (fits x) (start (next i))))) (y, j) h (λ x k is h.
      let r = sound (next i) k x is in
      let at = start (next i) in
      let rest = chain_from_sound n first (found ++ item o x ∷ []) (or_else own (unless (fits x) at)) k j y h in
      record {
        xs = item o x ∷ rest.xs;
        late = rest.late;
        mid = rest.mid;
        front = p.token ∷ r.front ++ rest.front;
        took = took_both p.took (took_both r.took rest.took);
        empty = not_empty (item o x) rest.xs (p.token ∷ r.front ++ rest.front);
        fit = λ none. (fit_of x at own (rest.fit none)).0;
        parts = λ none clean. s.more p.token r.front rest.front p.is (r.spells (rest.took.clean clean)) (fit_of x at own (rest.fit none)).1 (rest.parts none clean);
        settled = rw append_assoc at rest.settled;
      }))
      (λ h. unlinked first found own i j y h)

  chain_sound : Sound (chain operators item fits make part) (Chain O I operators item fits make Part)
  unfolding chain settle
  chain_sound i j y h =
      let place = start i in
      after_step (part i) (λ first k. chain_from operators item fits make part (left k) first [] (unless (fits first) place) k) (y, j) h (λ first k is h.
      let r = sound i k first is in
      let c = chain_from_sound (left k) first [] (unless (fits first) place) k j y h in
      by_list first k r c.xs c.late c.mid c.front c.took c.empty c.fit c.parts c.settled)
    where
      by_list : (first : Tree) (k : Input) → Reading Part first i k → (xs : List I) (late : Option ℕ) (mid : Input) (front : List Token) → Took k mid front
          → (xs ≡ [] → front ≡ []) → (late ≡ None → unless (fits first) (start i) ≡ None) → (late ≡ None → mid.wrong ≡ None → Rest O I operators item fits Part xs front)
          → settle make first xs late mid ≡ Ok (y, j) → Reading (Chain O I operators item fits make Part) y i j
      by_list first k r [] late mid front took empty fit parts h =
          let whole : r.front ++ front ≡ r.front = ap (λ f. r.front ++ f) (empty refl) ∙ append-nil r.front in
          ends h (record { front = r.front ++ front; took = took_both r.took took; spells = λ clean. rw whole (s.one (r.spells (took.clean clean))) })
      by_list first k r (x ∷ xs) late mid front took empty fit parts h =
          ends h (record {
            front = r.front ++ front;
            took = took_noted late (took_both r.took took);
            spells = λ clean.
                let none = note_late mid late clean in
                let before = clean_before mid late clean in
                s.several r.front front (r.spells (took.clean before)) (fits_unless (fits first) (start i) (fit none)) (parts none before);
          })

-- ---- identifiers and texts

named_sound : (make : List ℕ → Tree) (operand : Tree) (at : ℕ) (i j : Input) (y : Tree) → named make operand at i ≡ Ok (y, j)
    → (took : Took i j []) × (j.wrong ≡ None → (w : List ℕ) × (operand ≡ e.Name w) × (y ≡ make w))
unfolding named
named_sound make operand at i j y h = by_node (out-Tree operand) refl h
  where
    wrong : ◌≡◌ {A = Outcome Tree} (Ok (operand, noted (Some at) i)) (Ok (y, j)) → (took : Took i j []) × (j.wrong ≡ None → (w : List ℕ) × (operand ≡ e.Name w) × (y ≡ make w))
    wrong h =
        let same = ok_same h in
        let P : Input → Type 0 = λ k. (took : Took i k []) × (k.wrong ≡ None → (w : List ℕ) × (operand ≡ e.Name w) × (y ≡ make w)) in
        subst P same.1 (took_note i (Some at), λ clean. absurd (some_none at (note_late i (Some at) clean)))

    by_node : (f : Tree-F Tree) → out-Tree operand ≡ f → named_by make operand at f i ≡ Ok (y, j)
        → (took : Took i j []) × (j.wrong ≡ None → (w : List ℕ) × (operand ≡ e.Name w) × (y ≡ make w))
    by_node (Tree-F.Name w) is h =
        let same = ok_same h in
        let P : Input → Type 0 = λ k. Took i k [] in
        (subst P same.1 (took_none i), λ _. (w, sym (roll-out-Tree operand) ∙ ap roll-Tree is ∙ rolls-Name w, sym same.0))
    by_node _ is h = wrong h

record Listed (found ws : List (List ℕ)) (i j : Input) : Type 0 where
  rest : List (List ℕ)
  front : List Token
  took : Took i j front
  is : ws ≡ found ++ rest
  spells : (w : List ℕ) (t : Token) → IsText w t → s.Texts (w ∷ rest) (t ∷ front)

texts_same : {found ws : List (List ℕ)} {i j : Input} → ◌≡◌ {A = Outcome (List (List ℕ))} (Ok (found, i)) (Ok (ws, j)) → Listed found ws i j
texts_same {found} {ws} {i} {j} h =
    let same = ok_same h in
    let P : Input → Type 0 = λ k. Took i k [] in
    record { rest = []; front = []; took = subst P same.1 (took_none i); is = sym same.0 ∙ sym (append-nil found); spells = λ w t is. s.last is }

texts_from_sound : (n : ℕ) (found : List (List ℕ)) (i j : Input) (ws : List (List ℕ)) → texts_from n found i ≡ Ok (ws, j) → Listed found ws i j
unfolding texts_from
texts_from_sound zero found i j ws h = texts_same h
texts_from_sound (suc n) found i j ws h =
    after_eat m.Comma (λ more. if more then (text >>= λ w. texts_from n (found ++ w ∷ [])) else pure found) i (ws, j) h
    (λ p h. after_step (text (next i)) (λ w. texts_from n (found ++ w ∷ [])) (ws, j) h (λ w k is h.
    let q = texted (next i) k w is in
    let r = texts_from_sound n (found ++ w ∷ []) k j ws h in
    record {
      rest = w ∷ r.rest;
      front = p.token ∷ q.token ∷ r.front;
      took = took_both p.took (took_both q.took r.took);
      is = r.is ∙ append_assoc found (w ∷ []) r.rest;
      spells = λ v t is. s.more is p.is (r.spells w q.token q.is);
    }))
    (λ _ h. texts_same h)

record Quoted (ws : List (List ℕ)) (i j : Input) : Type 0 where
  front : List Token
  took : Took i j front
  spells : s.Texts ws front

texts_sound : (i j : Input) (ws : List (List ℕ)) → texts i ≡ Ok (ws, j) → Quoted ws i j
unfolding texts
texts_sound i j ws h =
    after_step (text i) (λ first k. texts_from (left k) (first ∷ []) k) (ws, j) h (λ w k is h.
    let q = texted i k w is in
    let r = texts_from_sound (left k) (w ∷ []) k j ws h in
    record { front = q.token ∷ r.front; took = took_both q.took r.took; spells = along_texts r.is (r.spells w q.token q.is) })

module _ (levels : ℕ) (lower : Line → Parser Tree) (Lower : Line → Spelling) (below : (line : Line) → Sound (lower line) (Lower line)) where
  primary_sound : Sound (primary levels lower) (s.Primary levels Lower)
  unfolding primary opened
  primary_sound i j x h = by_kind (kind i) refl h
    where
      group : kind i ≡ Some (kinds.Mark m.Open) → 0 < levels → opened levels lower i ≡ Ok (x, j) → Reading (s.Primary levels Lower) x i j
      group is some h =
          let o = passed i (kinds.Mark m.Open) is in
          after_step (lower Ors (next i)) (λ t. expect m.Close >> pure t) (x, j) h (λ t k inner h.
          after_step (expect m.Close k) (λ _. pure t) (x, j) h (λ u l close h.
          let r = below Ors (next i) k t inner in
          let c = expected k l m.Close u close in
          ends h (record {
            front = o.token ∷ r.front ++ c.token ∷ [];
            took = took_both o.took (took_both r.took c.took);
            spells = λ clean. s.grouped o.token c.token r.front o.is c.is some (r.spells (c.took.clean clean));
          })))

      by_level : (b : Bool) → (levels == 0) ≡ b → kind i ≡ Some (kinds.Mark m.Open)
          → if◌then◌else◌ {A = Parser Tree} b (stop causes.TooDeep) (opened levels lower) i ≡ Ok (x, j)
          → Reading (s.Primary levels Lower) x i j
      by_level true zeroed is h = absurd (cc)
      by_level false zeroed is h = group is (grind arith) h

      by_mark : (mark : Mark) → kind i ≡ Some (kinds.Mark mark) → marked levels lower mark i ≡ Ok (x, j) → Reading (s.Primary levels Lower) x i j
      by_mark m.True is h = alone (passed i _ is) h (λ t k. (s.truth k))
      by_mark m.False is h = alone (passed i _ is) h (λ t k. (s.untruth k))
      by_mark m.Open is h = by_level (levels == 0) refl is h
      by_mark _ is h = absurd (cc)

      by_size : (n : ℕ) (b : Bool) → nat_lt n limit ≡ b → kind i ≡ Some (kinds.Number n)
          → if◌then◌else◌ {A = Parser Tree} b (pass >> pure (e.Num (pos n))) (stop causes.Number) i ≡ Ok (x, j)
          → Reading (s.Primary levels Lower) x i j
      by_size n true fits is h = alone (passed i _ is) h (λ t k. s.number k (grind (arith, nat_tests)))
      by_size n false fits is h = absurd (cc)

      by_kind : (k : Option Kind) → kind i ≡ k → primary_by levels lower k i ≡ Ok (x, j) → Reading (s.Primary levels Lower) x i j
      by_kind None is h = absurd (cc)
      by_kind (Some (kinds.Mark mark)) is h = by_mark mark is h
      by_kind (Some (kinds.Name w)) is h = alone (passed i _ is) h (λ t k. (s.name k))
      by_kind (Some (kinds.Text w)) is h = alone (passed i _ is) h (λ t k. (s.content k))
      by_kind (Some (kinds.Number n)) is h = by_size n (nat_lt n limit) refl is h

  -- the operand of a sign
  record Signed (make : Tree → Tree) (y : Tree) (i j : Input) : Type 0 where
    operand : Tree
    front : List Token
    took : Took i j front
    same : y ≡ make operand
    spells : j.wrong ≡ None → Lower Signs operand front
    fit : j.wrong ≡ None → fits_number operand ≡ true

  signed_sound : (make : Tree → Tree) (i j : Input) (y : Tree) → signed levels lower make i ≡ Ok (y, j) → Signed make y i j
  unfolding signed
  signed_sound make i j y h =
      let at = start i in
      after_step (lower Signs i) (λ o. note (unless (fits_number o) at) >> pure (make o)) (y, j) h (λ o k is h.
      let r = below Signs i k o is in
      made h (record {
        operand = o;
        front = r.front;
        took = took_noted _ r.took;
        same = refl;
        spells = λ clean. r.spells (clean_before k _ clean);
        fit = λ clean. fits_unless (fits_number o) at (note_late k _ clean);
      }))
    where
      made : {x : Tree} {k : Input} → ◌≡◌ {A = Outcome Tree} (Ok (x, k)) (Ok (y, j)) → Signed make x i k → Signed make y i j
      made {x} {k} h r = let e = ok_same h in rw (← e.0) (rw (← e.1) r)

  unary_sound : Sound (unary levels lower) (s.Unary levels Lower)
  unfolding unary minus plus
  unary_sound i j x h = by_minus (sees m.Minus i) refl h
    where
      negative : (t : Passed i (kinds.Mark m.Minus)) → 0 < levels → signed levels lower e.Neg (next i) ≡ Ok (x, j) → Reading (s.Unary levels Lower) x i j
      negative t some h =
          let q = signed_sound e.Neg (next i) j x h in
          record { front = t.token ∷ q.front; took = took_both t.took q.took; spells = λ clean. along (s.Unary levels Lower) q.same (s.minus t.is some (q.spells clean) (q.fit clean)) }

      positive : (t : Passed i (kinds.Mark m.Plus)) → 0 < levels → signed levels lower e.Plus (next i) ≡ Ok (x, j) → Reading (s.Unary levels Lower) x i j
      positive t some h =
          let q = signed_sound e.Plus (next i) j x h in
          record { front = t.token ∷ q.front; took = took_both t.took q.took; spells = λ clean. along (s.Unary levels Lower) q.same (s.plus t.is some (q.spells clean) (q.fit clean)) }

      by_number : (t : Passed i (kinds.Mark m.Minus)) → 0 < levels → (n : ℕ) (b : Bool) → (n == limit) ≡ b → kind (next i) ≡ Some (kinds.Number n)
          → if◌then◌else◌ {A = Parser Tree} b (pass >> pure (e.Num least)) (signed levels lower e.Neg) (next i) ≡ Ok (x, j) → Reading (s.Unary levels Lower) x i j
      by_number t some n true same is h =
          let p = passed (next i) (kinds.Number n) is in
          let equal : n ≡ limit = grind (arith, nat_tests) in
          ends h (record { front = t.token ∷ p.token ∷ []; took = took_both t.took p.took; spells = λ _. s.lowest t.is some (p.is ∙ ap (λ k. kinds.Number k) equal) })
      by_number t some n false same is h = negative t some h

      least_or : (t : Passed i (kinds.Mark m.Minus)) → 0 < levels → (k : Option Kind) → kind (next i) ≡ k → minus_by levels lower k (next i) ≡ Ok (x, j)
          → Reading (s.Unary levels Lower) x i j
      least_or t some None is h = negative t some h
      least_or t some (Some (kinds.Mark mark)) is h = negative t some h
      least_or t some (Some (kinds.Name w)) is h = negative t some h
      least_or t some (Some (kinds.Text w)) is h = negative t some h
      least_or t some (Some (kinds.Number n)) is h = by_number t some n (n == limit) refl is h

      minus_level : (b : Bool) → (levels == 0) ≡ b → Passed i (kinds.Mark m.Minus)
          → if◌then◌else◌ {A = Parser Tree} b (stop causes.TooDeep) (minus levels lower) i ≡ Ok (x, j)
          → Reading (s.Unary levels Lower) x i j
      minus_level true zeroed t h = absurd (cc)
      minus_level false zeroed t h = least_or t (grind arith) (kind (next i)) refl h

      plus_level : (b : Bool) → (levels == 0) ≡ b → Passed i (kinds.Mark m.Plus)
          → if◌then◌else◌ {A = Parser Tree} b (stop causes.TooDeep) (plus levels lower) i ≡ Ok (x, j)
          → Reading (s.Unary levels Lower) x i j
      plus_level true zeroed t h = absurd (cc)
      plus_level false zeroed t h = positive t (grind arith) h

      by_plus : (b : Bool) → sees m.Plus i ≡ b → if◌then◌else◌ {A = Outcome Tree} b (deeper levels lower (plus levels lower) i) (primary levels lower i) ≡ Ok (x, j)
          → Reading (s.Unary levels Lower) x i j
      by_plus true is h = plus_level (levels == 0) refl (seen i m.Plus is) h
      by_plus false is h =
          let r = primary_sound i j x h in
          record { front = r.front; took = r.took; spells = λ clean. s.plain (r.spells clean) }

      by_minus : (b : Bool) → sees m.Minus i ≡ b
          → if◌then◌else◌ {A = Outcome Tree} b (deeper levels lower (minus levels lower) i)
          (if◌then◌else◌ {A = Outcome Tree} (sees m.Plus i) (deeper levels lower (plus levels lower) i) (primary levels lower i)) ≡ Ok (x, j)
          → Reading (s.Unary levels Lower) x i j
      by_minus true is h = minus_level (levels == 0) refl (seen i m.Minus is) h
      by_minus false is h = by_plus (sees m.Plus i) refl h

  product_sound : Sound (product levels lower) (s.Product levels Lower)
  unfolding product
  product_sound = chain_sound _ _ multiplicative_of (λ o x. (o, x)) fits_number e.Product (unary levels lower) (s.Unary levels Lower) unary_sound

  sum_sound : Sound (sum levels lower) (s.Sum levels Lower)
  unfolding sum
  sum_sound = chain_sound _ _ additive_of (λ o x. (o, x)) fits_number e.Sum (product levels lower) (s.Product levels Lower) product_sound

  -- what stands after an operand, and what it makes of it
  record Stated (negated : Bool) (operand y : Tree) (i j : Input) : Type 0 where
    front : List Token
    took : Took i j front
    spells : j.wrong ≡ None → s.Predicate levels Lower negated operand y front

  record Tailed (operand y : Tree) (i j : Input) : Type 0 where
    front : List Token
    took : Took i j front
    spells : j.wrong ≡ None → s.Tail levels Lower operand y front

  between_sound : (negated : Bool) (operand : Tree) (at : ℕ) (i j : Input) (y : Tree) → Passed i (kinds.Mark m.Between) → between levels lower negated operand at i ≡ Ok (y, j)
      → Stated negated operand y i j
  unfolding between
  between_sound negated operand at i j y t h =
      let low_at = start (next i) in
      after_step (sum levels lower (next i)) (λ low. expect m.And >> (here >>= λ high_at. sum levels lower >>= λ high. note (unless (fits_number operand) at)
      >> note (unless (fits_number low) low_at) >> note (unless (fits_number high) high_at) >> pure (e.Between negated operand low high))) (y, j) h (λ low k is h.
      let r = sum_sound (next i) k low is in
      after_step (expect m.And k) (λ _. here >>= λ high_at. sum levels lower >>= λ high. note (unless (fits_number operand) at)
      >> note (unless (fits_number low) low_at) >> note (unless (fits_number high) high_at) >> pure (e.Between negated operand low high)) (y, j) h (λ u l is h.
      let c = expected k l m.And u is in
      let high_at = start l in
      after_step (sum levels lower l) (λ high. note (unless (fits_number operand) at)
      >> note (unless (fits_number low) low_at) >> note (unless (fits_number high) high_at) >> pure (e.Between negated operand low high)) (y, j) h (λ high o is h.
      let q = sum_sound l o high is in
      stated h (record {
        front = t.token ∷ r.front ++ c.token ∷ q.front;
        took = took_noted _ (took_noted _ (took_noted _ (took_both t.took (took_both r.took (took_both c.took q.took)))));
        spells = λ clean.
            let one = clean_before _ _ clean in
            let two = clean_before _ _ one in
            let three = clean_before o _ two in
            s.between t.token c.token r.front q.front t.is (r.spells (c.took.clean (q.took.clean three))) c.is (q.spells three)
            (fits_unless (fits_number operand) at (note_late o _ two))
            (fits_unless (fits_number low) low_at (note_late _ _ one))
            (fits_unless (fits_number high) high_at (note_late _ _ clean));
      }))))
    where
      stated : {x : Tree} {k : Input} → ◌≡◌ {A = Outcome Tree} (Ok (x, k)) (Ok (y, j)) → Stated negated operand x i k → Stated negated operand y i j
      stated {x} {k} h r = let e = ok_same h in rw (← e.0) (rw (← e.1) r)

  membership_sound : (negated : Bool) (operand : Tree) (at : ℕ) (i j : Input) (y : Tree) → Passed i (kinds.Mark m.In) → membership negated operand at i ≡ Ok (y, j)
      → Stated negated operand y i j
  unfolding membership in_of
  membership_sound negated operand at i j y t h =
      after_step (expect m.Open (next i)) (λ _. texts >>= λ list. expect m.Close >> named (in_of negated list) operand at) (y, j) h (λ u k opens h.
      after_step (texts k) (λ list. expect m.Close >> named (in_of negated list) operand at) (y, j) h (λ ws l lists h.
      after_step (expect m.Close l) (λ _. named (in_of negated ws) operand at) (y, j) h (λ v n closes h.
      let o = expected (next i) k m.Open u opens in
      let list = texts_sound k l ws lists in
      let c = expected l n m.Close v closes in
      let q = named_sound (in_of negated ws) operand at n j y h in
      record {
        front = t.token ∷ o.token ∷ list.front ++ c.token ∷ [];
        took = took_both t.took (took_both o.took (took_both list.took (took_both c.took q.0)));
        spells = λ clean. let w = q.1 clean in along_both (s.Predicate levels Lower negated) w.1 w.2 (s.membership t.token o.token c.token list.front t.is o.is list.spells c.is);
      })))

  likeness_sound : (negated : Bool) (operand : Tree) (at : ℕ) (i j : Input) (y : Tree) → Passed i (kinds.Mark m.Like) → likeness negated operand at i ≡ Ok (y, j)
      → Stated negated operand y i j
  unfolding likeness like_of escaped
  likeness_sound negated operand at i j y t h =
      after_step (text (next i)) (λ pattern. eat m.Escape >>= λ more. if more then escaped negated operand at pattern else named (like_of negated pattern None) operand at) (y, j) h (λ pattern k is h.
      let p = texted (next i) k pattern is in
      after_eat m.Escape (λ more. if more then escaped negated operand at pattern else named (like_of negated pattern None) operand at) k (y, j) h
      (λ x h. after_step (text (next k)) (λ escape. escaped_by negated operand at pattern escape (start (next k))) (y, j) h (λ escape l is h.
      let q = texted (next k) l escape is in
      let place = start (next k) in
      after_step (named (like_of negated pattern (single escape)) operand at l) (λ tree. note (unless (is_some (single escape)) place) >> pure tree) (y, j) h (λ tree n is h.
      let r = named_sound (like_of negated pattern (single escape)) operand at l n tree is in
      stated h (record {
        front = t.token ∷ p.token ∷ x.token ∷ q.token ∷ [];
        took = took_noted _ (took_both t.took (took_both p.took (took_both x.took (took_both q.took r.0))));
        spells = λ clean.
            let w = r.1 (clean_before n _ clean) in
            let c = some_of (single escape) (fits_unless (is_some (single escape)) place (note_late n _ clean)) in
            along_both (s.Predicate levels Lower negated) w.1 (w.2 ∙ ap (λ o. e.Like negated w.0 pattern o) c.1) (escapes p.is t.is x.is q.is c.1);
      }))))
      (λ _ h.
      let r = named_sound (like_of negated pattern None) operand at k j y h in
      record {
        front = t.token ∷ p.token ∷ [];
        took = took_both t.took (took_both p.took r.0);
        spells = λ clean. let w = r.1 clean in along_both (s.Predicate levels Lower negated) w.1 w.2 (s.likeness t.is p.is);
      }))
    where
      some_of : (o : Option ℕ) → is_some o ≡ true → (c : ℕ) × (o ≡ Some c)
      some_of None h = absurd (cc)
      some_of (Some c) h = (c, refl)

      escapes : {w pattern escape : List ℕ} {c : ℕ} {l p x q : Token} → IsText pattern p → Is m.Like l → Is m.Escape x → IsText escape q → single escape ≡ Some c
          → s.Predicate levels Lower negated (e.Name w) (e.Like negated w pattern (Some c)) (l ∷ p ∷ x ∷ q ∷ [])
      escapes ip il ix iq one = s.escaped il ip ix iq one

      stated : {x : Tree} {k : Input} → ◌≡◌ {A = Outcome Tree} (Ok (x, k)) (Ok (y, j)) → Stated negated operand x i k → Stated negated operand y i j
      stated {x} {k} h r = let e = ok_same h in rw (← e.0) (rw (← e.1) r)

  compared_sound : (mark : Mark) (op : Comparison) (operand : Tree) (at : ℕ) (i j : Input) (y : Tree) → comparison_of mark ≡ Some op → Passed i (kinds.Mark mark)
      → compared levels lower op operand at i ≡ Ok (y, j) → Tailed operand y i j
  unfolding compared
  compared_sound mark op operand at i j y chosen t h =
      let right_at = start (next i) in
      after_step (sum levels lower (next i)) (λ right. note (unless (fits_comparison op operand) at) >> note (unless (fits_comparison op right) right_at)
      >> pure (e.Compare op operand right)) (y, j) h (λ right k is h.
      let r = sum_sound (next i) k right is in
      tailed h (record {
        front = t.token ∷ r.front;
        took = took_noted _ (took_noted _ (took_both t.took r.took));
        spells = λ clean.
            let before = clean_before _ _ clean in
            s.compared (ap (λ k. operator_in comparison_of (Some k)) t.is ∙ chosen) (r.spells (clean_before k _ before))
            (fits_unless (fits_comparison op operand) at (note_late k _ before)) (fits_unless (fits_comparison op right) right_at (note_late _ _ clean));
      }))
    where
      tailed : {x : Tree} {k : Input} → ◌≡◌ {A = Outcome Tree} (Ok (x, k)) (Ok (y, j)) → Tailed operand x i k → Tailed operand y i j
      tailed {x} {k} h r = let e = ok_same h in rw (← e.0) (rw (← e.1) r)

  null_test_sound : (operand : Tree) (at : ℕ) (i j : Input) (y : Tree) → Passed i (kinds.Mark m.Is) → null_test operand at i ≡ Ok (y, j) → Tailed operand y i j
  unfolding null_test
  null_test_sound operand at i j y t h =
      after_eat m.Not (λ negated. expect m.Null >> named (e.IsNull negated) operand at) (next i) (y, j) h
      (λ d h. after_step (expect m.Null (next (next i))) (λ _. named (e.IsNull true) operand at) (y, j) h (λ u l is h.
      let n = expected (next (next i)) l m.Null u is in
      let q = named_sound (e.IsNull true) operand at l j y h in
      record {
        front = t.token ∷ d.token ∷ n.token ∷ [];
        took = took_both t.took (took_both d.took (took_both n.took q.0));
        spells = λ clean. let w = q.1 clean in along_both (s.Tail levels Lower) w.1 w.2 (s.not_null t.is d.is n.is);
      }))
      (λ _ h. after_step (expect m.Null (next i)) (λ _. named (e.IsNull false) operand at) (y, j) h (λ u l is h.
      let n = expected (next i) l m.Null u is in
      let q = named_sound (e.IsNull false) operand at l j y h in
      record {
        front = t.token ∷ n.token ∷ [];
        took = took_both t.took (took_both n.took q.0);
        spells = λ clean. let w = q.1 clean in along_both (s.Tail levels Lower) w.1 w.2 (s.null t.is n.is);
      }))

  negated_sound : (operand : Tree) (at : ℕ) (i j : Input) (y : Tree) → Passed i (kinds.Mark m.Not) → negated_tail levels lower operand at i ≡ Ok (y, j) → Tailed operand y i j
  unfolding negated_tail
  negated_sound operand at i j y t h = by_kind (kind (next i)) refl h
    where
      denies : Stated true operand y (next i) j → Tailed operand y i j
      denies q = record { front = t.token ∷ q.front; took = took_both t.took q.took; spells = λ clean. s.negated t.is (q.spells clean) }

      by_mark : (mark : Mark) → kind (next i) ≡ Some (kinds.Mark mark) → negated_by levels lower operand at (Some (kinds.Mark mark)) (next i) ≡ Ok (y, j) → Tailed operand y i j
      by_mark m.Between is h = denies (between_sound true operand at (next i) j y (passed (next i) _ is) h)
      by_mark m.In is h = denies (membership_sound true operand at (next i) j y (passed (next i) _ is) h)
      by_mark m.Like is h = denies (likeness_sound true operand at (next i) j y (passed (next i) _ is) h)
      by_mark _ is h = absurd (cc)

      by_kind : (k : Option Kind) → kind (next i) ≡ k → negated_by levels lower operand at k (next i) ≡ Ok (y, j) → Tailed operand y i j
      by_kind None is h = absurd (cc)
      by_kind (Some (kinds.Name w)) is h = absurd (cc)
      by_kind (Some (kinds.Number n)) is h = absurd (cc)
      by_kind (Some (kinds.Text w)) is h = absurd (cc)
      by_kind (Some (kinds.Mark mark)) is h = by_mark mark is h

  test_sound : Sound (tested levels lower) (s.Test levels Lower)
  unfolding tested
  test_sound i j y h =
      after_step (sum levels lower i) (λ operand. peek >>= tail_by levels lower operand (start i)) (y, j) h (λ x k is h. by_kind x k (sum_sound i k x is) (kind k) refl h)
    where
      plain : (x : Tree) (k : Input) → Reading (s.Sum levels Lower) x i k → ◌≡◌ {A = Outcome Tree} (Ok (x, k)) (Ok (y, j)) → Reading (s.Test levels Lower) y i j
      plain x k r h = ends h (record { front = r.front; took = r.took; spells = λ clean. s.alone (r.spells clean) })

      tailed : (x : Tree) (k : Input) → Reading (s.Sum levels Lower) x i k → Tailed x y k j → Reading (s.Test levels Lower) y i j
      tailed x k r q = record { front = r.front ++ q.front; took = took_both r.took q.took; spells = λ clean. s.tailed r.front q.front (r.spells (q.took.clean clean)) (q.spells clean) }

      stated : (x : Tree) (k : Input) → Reading (s.Sum levels Lower) x i k → Stated false x y k j → Reading (s.Test levels Lower) y i j
      stated x k r q = tailed x k r (record { front = q.front; took = q.took; spells = λ clean. s.stated (q.spells clean) })

      by_mark : (x : Tree) (k : Input) → Reading (s.Sum levels Lower) x i k → (mark : Mark) → kind k ≡ Some (kinds.Mark mark) → tail levels lower x (start i) mark k ≡ Ok (y, j)
          → Reading (s.Test levels Lower) y i j
      by_mark x k r m.Equal is h = tailed x k r (compared_sound m.Equal comparisons.Equal x (start i) k j y refl (passed k _ is) h)
      by_mark x k r m.NotEqual is h = tailed x k r (compared_sound m.NotEqual comparisons.NotEqual x (start i) k j y refl (passed k _ is) h)
      by_mark x k r m.Less is h = tailed x k r (compared_sound m.Less comparisons.Less x (start i) k j y refl (passed k _ is) h)
      by_mark x k r m.LessOrEqual is h = tailed x k r (compared_sound m.LessOrEqual comparisons.LessOrEqual x (start i) k j y refl (passed k _ is) h)
      by_mark x k r m.Greater is h = tailed x k r (compared_sound m.Greater comparisons.Greater x (start i) k j y refl (passed k _ is) h)
      by_mark x k r m.GreaterOrEqual is h = tailed x k r (compared_sound m.GreaterOrEqual comparisons.GreaterOrEqual x (start i) k j y refl (passed k _ is) h)
      by_mark x k r m.Between is h = stated x k r (between_sound false x (start i) k j y (passed k _ is) h)
      by_mark x k r m.In is h = stated x k r (membership_sound false x (start i) k j y (passed k _ is) h)
      by_mark x k r m.Like is h = stated x k r (likeness_sound false x (start i) k j y (passed k _ is) h)
      by_mark x k r m.Is is h = tailed x k r (null_test_sound x (start i) k j y (passed k _ is) h)
      by_mark x k r m.Not is h = tailed x k r (negated_sound x (start i) k j y (passed k _ is) h)
      by_mark x k r _ is h = plain x k r h

      by_kind : (x : Tree) (k : Input) → Reading (s.Sum levels Lower) x i k → (found : Option Kind) → kind k ≡ found → tail_by levels lower x (start i) found k ≡ Ok (y, j)
          → Reading (s.Test levels Lower) y i j
      by_kind x k r None is h = plain x k r h
      by_kind x k r (Some (kinds.Name w)) is h = plain x k r h
      by_kind x k r (Some (kinds.Number n)) is h = plain x k r h
      by_kind x k r (Some (kinds.Text w)) is h = plain x k r h
      by_kind x k r (Some (kinds.Mark mark)) is h = by_mark x k r mark is h

  condition_sound : Sound (condition levels lower) (s.Condition levels Lower)
  unfolding condition denied
  condition_sound i j x h = by_test (sees m.Not i) refl h
    where
      by_level : (b : Bool) → (levels == 0) ≡ b → Passed i (kinds.Mark m.Not)
          → if◌then◌else◌ {A = Parser Tree} b (stop causes.TooDeep) (denied levels lower) i ≡ Ok (x, j)
          → Reading (s.Condition levels Lower) x i j
      by_level true zeroed t h = absurd (cc)
      by_level false zeroed t h =
          let at = start (next i) in
          after_step (lower Nots (next i)) (λ o. note (unless (fits_truth o) at) >> pure (e.Not o)) (x, j) h (λ o k is h.
          let r = below Nots (next i) k o is in
          ends h (record {
            front = t.token ∷ r.front;
            took = took_noted _ (took_both t.took r.took);
            spells = λ clean. s.denied t.is (grind arith) (r.spells (clean_before k _ clean)) (fits_unless (fits_truth o) at (note_late k _ clean));
          }))

      by_test : (b : Bool) → sees m.Not i ≡ b → if◌then◌else◌ {A = Outcome Tree} b (deeper levels lower (denied levels lower) i) (tested levels lower i) ≡ Ok (x, j)
          → Reading (s.Condition levels Lower) x i j
      by_test true is h = by_level (levels == 0) refl (seen i m.Not is) h
      by_test false is h =
          let r = test_sound i j x h in
          record { front = r.front; took = r.took; spells = λ clean. s.tested (r.spells clean) }

  both_sound : Sound (both levels lower) (s.Both levels Lower)
  unfolding both
  both_sound = chain_sound _ _ and_of (λ o x. x) fits_truth (λ first rest. e.All (first ∷ rest)) (condition levels lower) (s.Condition levels Lower) condition_sound

  either_sound : Sound (either levels lower) (s.Either levels Lower)
  unfolding either
  either_sound = chain_sound _ _ or_of (λ o x. x) fits_truth (λ first rest. e.AnyOf (first ∷ rest)) (both levels lower) (s.Both levels Lower) both_sound

below_sound : (n : ℕ) (line : Line) → Sound (below n line) (s.Below n line)
unfolding below
below_sound zero line i j x h = absurd (cc)
below_sound (suc n) Ors i j x h = either_sound n (below n) (s.Below n) (below_sound n) i j x h
below_sound (suc n) Nots i j x h = condition_sound n (below n) (s.Below n) (below_sound n) i j x h
below_sound (suc n) Signs i j x h = unary_sound n (below n) (s.Below n) (below_sound n) i j x h

-- The law: what is read is spelled so.
pub reads_spelled : (n : ℕ) → Sound (either n (below n)) (s.Either n (s.Below n))
reads_spelled n = either_sound n (below n) (s.Below n) (below_sound n)
