-- The scan gives the tokens of a text, or its first lexical fault.
use Rattle.std.proofs.Common.{◌≡◌, ℕ, zero, suc, ◌+◌, ◌<◌, ◌≤◌, ◌==◌, Bool, true, false, List, [], ◌∷◌, ◌++◌, length, drop, slice_index, Result, Ok, Err, IfOk, refl, ap, subst, sym, ◌∙◌, arith, append_assoc, append-nil, length-drop}
use Rattle.std.proofs.lemmas.Bool.Decides.{nat_tests}
use Rattle.jm_base.specs.declared.refusal.Cause.{Cause}
use Rattle.jm_lexer.specs.declared.fault.SyntaxFault.{SyntaxFault}
use Rattle.jm_lexer.specs.declared.token.Kind.{Kind}
use Rattle.jm_lexer.specs.declared.token.Token.{Token}
use Rattle.jm_lexer.specs.Faults.{Gives}
use Rattle.jm_lexer.specs.Faults.{fault_at}
use Rattle.jm_lexer.specs.Words.{is_blank}
use Rattle.jm_lexer.specs.Lex.{front, lex_from, place, tokens}
use Rattle.jm_lexer.specs.Lexes.{Longest, followed, LexesFrom, end, blank, token, wrong, Lexes, Answers}
use Rattle.jm_lexer.proofs.Contents.{drop_at}
use Rattle.jm_lexer.proofs.Lexing.{one_end, one_skip, one_fail, one_take}
use Rattle.jm_lexer.proofs.Best.{best, outcome, front_best, best_longest, longest_best, word_some}

abbrev Reply : Type 0
Reply = Result (List Token) SyntaxFault

-- after the tokens that were found before
abbrev joined : List Token → Reply → Reply
joined found (Ok toks) = Ok (found ++ toks)
joined found (Err e) = Err e

joined_followed : (found : List Token) (t : Token) (r : Reply) → joined (found ++ t ∷ []) r ≡ joined found (followed t r)
joined_followed found t (Ok toks) = ap (λ l. Ok l) (append_assoc found (t ∷ []) toks)
joined_followed found t (Err e) = refl

-- what is left begins with its first byte
left : (text : List ℕ) (at : ℕ) → at < length text → drop at text ≡ slice_index text at ∷ drop (at + 1) text
left [] at below = absurd (omega arith)
left (b ∷ text) zero below = refl
left (b ∷ text) (suc at) below = let e : suc at + 1 ≡ suc (at + 1) = omega arith in rw e (left text at (omega arith))

-- a longest word takes a byte at least
longest_some : (z : List ℕ) (n : ℕ) (found : Result Kind Cause) → Longest z n found → (1 ≤ n) × (n ≤ length z) × (is_blank (slice_index z 0) ≡ false)
longest_some z zero found l = let h = (word_some l.spelled).0 in absurd (omega arith)
longest_some [] (suc n) found l = let h = l.within in absurd (omega arith)
longest_some (b ∷ z) (suc n) found l = (omega arith, l.within, (word_some l.spelled).1)

-- ---- what the scan gives is related

at_end : (text : List ℕ) (at : ℕ) → at ≡ length text → drop at text ≡ []
at_end [] at is = let e : at ≡ 0 = is in rw e refl
at_end (b ∷ text) zero is = absurd (omega arith)
at_end (b ∷ text) (suc at) is = at_end text at (omega arith)

-- what a scan from this place gives
record FromHere (text : List ℕ) (n at : ℕ) (found : List Token) : Type 0 where
  given : Reply
  related : LexesFrom at (drop at text) given
  gives : lex_from text n at found ≡ joined found given

past_end : (text : List ℕ) (n at : ℕ) (found : List Token) → at ≡ length text → lex_from text n at found ≡ Ok found
unfolding lex_from
past_end text zero at found is = refl
past_end text (suc n) at found is = one_end text n at found is

from_end : (text : List ℕ) (n at : ℕ) (found : List Token) → at ≡ length text → FromHere text n at found
from_end text n at found is = record {
  given = Ok [];
  related = subst (λ z. LexesFrom at z (Ok [])) (sym (at_end text at is)) end;
  gives = past_end text n at found is ∙ ap (λ l. Ok l) (sym (append-nil found));
}

module _ (text : List ℕ) (n : ℕ) (again : (at : ℕ) (found : List Token) → at ≤ length text → length text ≤ at + n → FromHere text n at found)
    (at : ℕ) (found : List Token) (enough : length text ≤ at + suc n) where
  from_word : at < length text → is_blank (slice_index text at) ≡ false → (f : Result Kind Cause) (k : ℕ) → Longest (drop at text) k f → front at (drop at text) ≡ outcome at (k, f)
      → FromHere text (suc n) at found
  from_word before solid (Ok kind) k l h =
      let some = longest_some (drop at text) k (Ok kind) l in
      let least = some.0 in
      let below = some.1 in
      let size = length-drop at text in
      let g = again (at + k) (found ++ place kind at (at + k) ∷ []) (omega arith) (omega arith) in
      record {
        given = followed (place kind at (at + k)) g.given;
        related = token k l (subst (λ z. LexesFrom (at + k) z g.given) (sym (drop_at text at k)) g.related);
        gives = one_take text n at found kind k before solid h ∙ g.gives ∙ joined_followed found (place kind at (at + k)) g.given;
      }
  from_word before solid (Err cause) k l h =
      record { given = Err (fault_at at cause); related = wrong k l; gives = one_fail text n at found (fault_at at cause) before solid h }

  from_byte : at < length text → (q : Bool) → is_blank (slice_index text at) ≡ q → FromHere text (suc n) at found
  from_byte before true is =
      let g = again (at + 1) found (omega arith) (omega arith) in
      record {
        given = g.given;
        related = subst (λ z. LexesFrom at z g.given) (sym (left text at before)) (blank is g.related);
        gives = one_skip text n at found before is ∙ g.gives;
      }
  from_byte before false is =
      let P : List ℕ → Type 0 = λ y. Longest y (best y).0 (best y).1 in
      let l = subst P (sym (left text at before)) (best_longest (slice_index text at) (drop (at + 1) text) is) in
      from_word before is (best (drop at text)).1 (best (drop at text)).0 l (front_best at (drop at text))

  from_here : (q : Bool) → (at == length text) ≡ q → at ≤ length text → FromHere text (suc n) at found
  from_here true is within = let e : at ≡ length text = grind (arith, nat_tests) in from_end text (suc n) at found e
  from_here false is within = let before : at < length text = grind (arith, nat_tests) in from_byte before (is_blank (slice_index text at)) refl

scanned : (n : ℕ) (text : List ℕ) (at : ℕ) (found : List Token) → at ≤ length text → length text ≤ at + n → FromHere text n at found
scanned zero text at found within enough = from_end text 0 at found (omega arith)
scanned (suc n) text at found within enough = from_here text n (scanned n text) at found enough (at == length text) refl within

-- ---- what is related is given

front_longest : (at : ℕ) (z : List ℕ) (n : ℕ) (found : Result Kind Cause) → Longest z n found → front at z ≡ outcome at (n, found)
front_longest at [] n found l = let some = longest_some [] n found l in absurd (omega arith)
front_longest at (b ∷ z) n found l =
    let some = longest_some (b ∷ z) n found l in
    front_best at (b ∷ z) ∙ ap (outcome at) (longest_best b z n found some.2 l)

solid_here : (text : List ℕ) (at : ℕ) → at < length text → is_blank (slice_index (drop at text) 0) ≡ false → is_blank (slice_index text at) ≡ false
solid_here text at before h = subst (λ z. is_blank (slice_index z 0) ≡ false) (left text at before) h

-- there is something left, so there is a turn left
no_turn : {X : Type 0} (text z : List ℕ) (at : ℕ) → 1 ≤ length z → z ≡ drop at text → length text ≤ at + 0 → X
no_turn text z at some is enough = let size = length-drop at text in let e = ap length is in absurd (omega arith)

only_from : (at : ℕ) (z : List ℕ) (r : Reply) → LexesFrom at z r → (text : List ℕ) (n : ℕ) (found : List Token) → z ≡ drop at text → at ≤ length text → length text ≤ at + n
    → lex_from text n at found ≡ joined found r
only_from at z r end text n found is within enough =
    let size = length-drop at text in
    let e = ap length is in
    let past : at ≡ length text = omega arith in
    past_end text n at found past ∙ ap (λ l. Ok l) (sym (append-nil found))
only_from at z r (blank {b = b} {z = y} solid rest) text zero found is within enough = no_turn text (b ∷ y) at (omega arith) is enough
only_from at z r (blank {b = b} {z = y} {found = others} space rest) text (suc n) found is within enough =
    let size = length-drop at text in
    let e = ap length is in
    let before : at < length text = omega arith in
    let split = is ∙ left text at before in
    let head : b ≡ slice_index text at = cc in
    let more : y ≡ drop (at + 1) text = cc in
    one_skip text n at found before (subst (λ c. is_blank c ≡ true) head space) ∙ only_from (at + 1) y others rest text n found more (omega arith) (omega arith)
only_from at z r (token {kind = kind} k l rest) text zero found is within enough = let some = longest_some z k (Ok kind) l in no_turn text z at (omega arith) is enough
only_from at z r (token {found = others} {kind = kind} k l rest) text (suc n) found is within enough =
    let some = longest_some z k (Ok kind) l in
    let size = length-drop at text in
    let e = ap length is in
    let fits = some.1 in
    let before : at < length text = omega arith in
    let here = subst (λ y. Longest y k (Ok kind)) is l in
    let solid = solid_here text at before (longest_some (drop at text) k (Ok kind) here).2 in
    one_take text n at found kind k before solid (front_longest at (drop at text) k (Ok kind) here)
    ∙ only_from (at + k) (drop k z) others rest text n (found ++ place kind at (at + k) ∷ []) (ap (drop k) is ∙ drop_at text at k) (omega arith) (omega arith)
    ∙ joined_followed found (place kind at (at + k)) others
only_from at z r (wrong {cause = cause} k l) text zero found is within enough = let some = longest_some z k (Err cause) l in no_turn text z at (omega arith) is enough
only_from at z r (wrong {cause = cause} k l) text (suc n) found is within enough =
    let some = longest_some z k (Err cause) l in
    let size = length-drop at text in
    let e = ap length is in
    let before : at < length text = omega arith in
    let here = subst (λ y. Longest y k (Err cause)) is l in
    let solid = solid_here text at before (longest_some (drop at text) k (Err cause) here).2 in
    one_fail text n at found (fault_at at cause) before solid (front_longest at (drop at text) k (Err cause) here)

joined_none : (r : Reply) → joined [] r ≡ r
joined_none (Ok toks) = refl
joined_none (Err e) = refl

-- ---- the clauses of `lex`

pub tokens_lexed : (text : List ℕ) → Lexes text (tokens text)
unfolding tokens
tokens_lexed text =
    let g = scanned (length text) text 0 [] (omega arith) (omega arith) in
    subst (Lexes text) (sym (g.gives ∙ joined_none g.given)) g.related

pub lexed_only : (text : List ℕ) (found : Reply) → Lexes text found → found ≡ tokens text
unfolding tokens
lexed_only text found l = sym (only_from 0 text found l text (length text) [] refl (omega arith) (omega arith) ∙ joined_none found)

pub lexed_tokens : (text : List ℕ) (found : Reply) → Lexes text found → tokens text ≡ found
lexed_tokens text found l = sym (lexed_only text found l)

pub gives_lexed : (text : List ℕ) (result : Reply) → Gives result (tokens text) → Answers text result
gives_lexed text (Ok toks) h = subst (Lexes text) h (tokens_lexed text)
gives_lexed text (Err e) h = λ no_want. subst (Lexes text) (h no_want) (tokens_lexed text)
