-- What the steps of a parser that ends well took.
use Rattle.std.proofs.Common.{◌≡◌, ℕ, Bool, true, false, List, [], ◌∷◌, ◌++◌, drop, Option, Some, None, Ok, Err, refl, ap, sym, ◌∙◌, rules, append_assoc, if◌then◌else◌}
use denote.Enum.Bare.{same_true}
use Rattle.jm_lexer.specs.contracts.token.Mark.{the_type}
use Rattle.jm_lexer.specs.declared.token.Mark.{Mark}
use Rattle.jm_lexer.specs.declared.token.Kind.{Kind}
use Rattle.jm_lexer.specs.declared.token.Kind.TheVariants as kinds
use Rattle.jm_lexer.specs.declared.token.Token.{Token}
use Rattle.jm_base.specs.declared.refusal.Cause.TheVariants as causes
use Rattle.jm_lexer.specs.Words.{if_some}
use Rattle.jm_tree.specs.Input.{start, Input, Outcome, Parser, and_then, first_kind, is_mark, kind, next, sees, after, expect, noted, or_else, unless, operator_at, after_operator, text, text_by}
use Rattle.jm_tree.specs.Operators.{operator_in}
use Rattle.jm_tree.specs.Spells.{Is, IsText, Operates}

-- the step takes these tokens, and forgets no fault
pub record Took (i j : Input) (front : List Token) : Type 0 where
  pub tokens : i.tokens ≡ front ++ j.tokens
  pub clean : j.wrong ≡ None → i.wrong ≡ None

pub took_none : (i : Input) → Took i i []
took_none i = record { tokens = refl; clean = λ h. h }

pub took_both : {i j k : Input} {a b : List Token} → Took i j a → Took j k b → Took i k (a ++ b)
took_both {i} {j} {k} {a} {b} p q = record { tokens = p.tokens ∙ ap (λ r. a ++ r) q.tokens ∙ sym (append_assoc a b k.tokens); clean = λ h. p.clean (q.clean h) }

pub took_note : (i : Input) (at : Option ℕ) → Took i (noted at i) []
unfolding noted
took_note i at = record { tokens = refl; clean = none_early i.wrong at }
  where
    none_early : (early late : Option ℕ) → or_else early late ≡ None → early ≡ None
    none_early None late h = refl
    none_early (Some x) late h = h

pub note_late : (i : Input) (at : Option ℕ) → (noted at i).wrong ≡ None → at ≡ None
unfolding noted
note_late i at h = none_late i.wrong at h
  where
    none_late : (early late : Option ℕ) → or_else early late ≡ None → late ≡ None
    none_late None late h = h
    none_late (Some x) late h = absurd (cc)

-- a step that ended well, and what came after it, for a goal that names neither
pub after_step : {A B C : Type 0} (r : Outcome A) (f : A → Parser B) (y : B × Input) → and_then r f ≡ Ok y
    → ((a : A) (j : Input) → r ≡ Ok (a, j) → f a j ≡ Ok y → C) → C
after_step (Ok p) f y h k = k p.0 p.1 refl h
after_step (Err e) f y h k = absurd (cc)

-- two outcomes that end well are one
pub ok_same : {A : Type 0} {a b : A} {i j : Input} → ◌≡◌ {A = Outcome A} (Ok (a, i)) (Ok (b, j)) → (a ≡ b) × (i ≡ j)
ok_same {A} {a} {b} {i} {j} h = let pairs : ◌≡◌ {A = A × Input} (a, i) (b, j) = cc in (ap (λ (p : A × Input). p.0) pairs, ap (λ (p : A × Input). p.1) pairs)

pub first_of_list : (k : Kind) (ts : List Token) → first_kind ts ≡ Some k → (t : Token) × (rest : List Token) × (ts ≡ t ∷ rest) × (t.kind ≡ k)
first_of_list k [] h = absurd (cc)
first_of_list k (t ∷ rest) h = (t, rest, refl, cc)

-- the token of this kind
pub record Passed (i : Input) (k : Kind) : Type 0 where
  pub token : Token
  pub is : token.kind ≡ k
  pub took : Took i (next i) (token ∷ [])

pub passed : (i : Input) (k : Kind) → kind i ≡ Some k → Passed i k
unfolding kind next
passed i k h =
    let found : (t : Token) × (rest : List Token) × (i.tokens ≡ t ∷ rest) × (t.kind ≡ k) = first_of_list k i.tokens h in
    record {
      token = found.0;
      is = found.3;
      took = record { tokens = found.2 ∙ ap (λ r. found.0 ∷ r) (sym (ap (λ ts. drop 1 ts) found.2)); clean = λ h. h };
    }

pub mark_of : (mark : Mark) (k : Option Kind) → is_mark mark k ≡ true → k ≡ Some (kinds.Mark mark)
mark_of mark None h = absurd (cc)
mark_of mark (Some (kinds.Mark n)) h = ap (λ x. Some (kinds.Mark x)) (same_true the_type (search rules) n mark h)
mark_of mark (Some (kinds.Name n)) h = absurd (cc)
mark_of mark (Some (kinds.Number n)) h = absurd (cc)
mark_of mark (Some (kinds.Text w)) h = absurd (cc)

pub seen : (i : Input) (mark : Mark) → sees mark i ≡ true → Passed i (kinds.Mark mark)
unfolding sees
seen i mark h = passed i (kinds.Mark mark) (mark_of mark (kind i) h)

pub record Expected (i j : Input) (mark : Mark) : Type 0 where
  pub token : Token
  pub is : Is mark token
  pub took : Took i j (token ∷ [])

pub expected : (i j : Input) (mark : Mark) (u : Unit {0}) → expect mark i ≡ Ok (u, j) → Expected i j mark
unfolding expect
expected i j mark u h = by_test (sees mark i) refl h
  where
    by_test : (b : Bool) → sees mark i ≡ b → if◌then◌else◌ {A = Outcome (Unit {0})} b (Ok (tt, next i)) (Err (record { at = start i; cause = causes.Expected })) ≡ Ok (u, j) → Expected i j mark
    by_test true is h =
        let p = seen i mark is in
        record { token = p.token; is = p.is; took = rw (ok_same h).1 at p.took }
    by_test false is h = absurd (cc)

pub took_noted : {i j : Input} {a : List Token} (at : Option ℕ) → Took i j a → Took i (noted at j) a
unfolding noted
took_noted {i} {j} at p = record { tokens = p.tokens; clean = λ h. p.clean (none_early j.wrong at h) }
  where
    none_early : (early late : Option ℕ) → or_else early late ≡ None → early ≡ None
    none_early None late h = refl
    none_early (Some x) late h = h

pub clean_before : (i : Input) (at : Option ℕ) → (noted at i).wrong ≡ None → i.wrong ≡ None
clean_before i at h = (took_note i at).clean h

pub both_none : (early late : Option ℕ) → or_else early late ≡ None → (early ≡ None) × (late ≡ None)
both_none None late h = (refl, h)
both_none (Some x) late h = absurd (cc)

pub fits_unless : (fits : Bool) (at : ℕ) → unless fits at ≡ None → fits ≡ true
fits_unless true at h = refl
fits_unless false at h = absurd (cc)

-- a step that may take a mark, for a goal that names neither outcome
pub after_eat : {B C : Type 0} (mark : Mark) (f : Bool → Parser B) (i : Input) (y : B × Input) → f (sees mark i) (after mark i) ≡ Ok y
    → (Passed i (kinds.Mark mark) → f true (next i) ≡ Ok y → C) → (sees mark i ≡ false → f false i ≡ Ok y → C) → C
unfolding after
after_eat {B} {C} mark f i y h taken left = by_test (sees mark i) refl h
  where
    by_test : (b : Bool) → sees mark i ≡ b → f b (if b then next i else i) ≡ Ok y → C
    by_test true is h = taken (seen i mark is) h
    by_test false is h = left is h

-- the token that was taken as an operator
pub record Operated {O : Type 0} (i : Input) (operators : Mark → Option O) (o : O) : Type 0 where
  pub token : Token
  pub is : Operates operators o token
  pub took : Took i (next i) (token ∷ [])

pub operated : {O : Type 0} (operators : Mark → Option O) (i : Input) (o : O) → operator_at operators i ≡ Some o → Operated i operators o
unfolding operator_at
operated operators i o h = by_kind (kind i) refl h
  where
    by_kind : (k : Option Kind) → kind i ≡ k → operator_in operators k ≡ Some o → Operated i operators o
    by_kind None is h = absurd (cc)
    by_kind (Some k) is h =
        let p = passed i k is in
        record { token = p.token; is = ap (λ k. operator_in operators (Some k)) p.is ∙ h; took = p.took }

-- a step that may take an operator, for a goal that names neither outcome
pub after_choice : {O B C : Type 0} (operators : Mark → Option O) (f : Option O → Parser B) (i : Input) (y : B × Input)
    → f (operator_at operators i) (after_operator operators i) ≡ Ok y
    → ((o : O) → Operated i operators o → f (Some o) (next i) ≡ Ok y → C) → (f None i ≡ Ok y → C) → C
unfolding after_operator
after_choice {O} {B} {C} operators f i y h taken stopped = by_operator (operator_at operators i) refl h
  where
    by_operator : (a : Option O) → operator_at operators i ≡ a → f a (if_some a i (λ _. next i)) ≡ Ok y → C
    by_operator None is h = stopped h
    by_operator (Some o) is h = taken o (operated operators i o is) h

-- the text that was taken
pub record Texted (i j : Input) (w : List ℕ) : Type 0 where
  pub token : Token
  pub is : IsText w token
  pub took : Took i j (token ∷ [])

pub texted : (i j : Input) (w : List ℕ) → text i ≡ Ok (w, j) → Texted i j w
unfolding text
texted i j w h = by_kind (kind i) refl h
  where
    by_kind : (k : Option Kind) → kind i ≡ k → text_by k i ≡ Ok (w, j) → Texted i j w
    by_kind None is h = absurd (cc)
    by_kind (Some (kinds.Mark mark)) is h = absurd (cc)
    by_kind (Some (kinds.Name name)) is h = absurd (cc)
    by_kind (Some (kinds.Number n)) is h = absurd (cc)
    by_kind (Some (kinds.Text v)) is h =
        let p = passed i (kinds.Text v) is in
        let same = ok_same h in
        record { token = p.token; is = p.is ∙ ap (λ x. kinds.Text x) same.0; took = rw same.1 at p.took }
