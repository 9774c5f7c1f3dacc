-- One turn of the lexer, beside a loop that counts up.
use Rattle.std.proofs.Common.{◌≡◌, ℕ, suc, ◌+◌, ◌-◌, ◌<◌, ◌==◌, true, false, List, [], ◌∷◌, ◌++◌, length, drop, get_or, Result, Ok, Err, refl, ◌∙◌, arith}
use Rattle.std.proofs.lemmas.Bool.Decides.{nat_tests}
use Rattle.jm_lexer.specs.declared.fault.SyntaxFault.{SyntaxFault}
use Rattle.jm_lexer.specs.declared.token.Kind.{Kind}
use Rattle.jm_lexer.specs.declared.token.Token.{Token}
use Rattle.jm_lexer.specs.Words.{is_blank}
use Rattle.jm_lexer.specs.Lex.{front, lex_from, place}
use Rattle.jm_lexer.proofs.Turns.{one_more}

module _ (text : List ℕ) (n at : ℕ) (found : List Token) where
  pub one_end : at ≡ length text → lex_from text (suc n) at found ≡ Ok found
  unfolding lex_from
  one_end is = let test : (at == length text) ≡ true = grind (arith, nat_tests) in rw test refl

  inside : at < length text → (at == length text) ≡ false
  inside before = grind (arith, nat_tests)

  pub one_skip : at < length text → is_blank (get_or text at 0) ≡ true → lex_from text (suc n) at found ≡ lex_from text n (at + 1) found
  unfolding lex_from
  one_skip before blank = rw (inside before, blank) refl

  pub one_fail : (e : SyntaxFault) → at < length text → is_blank (get_or text at 0) ≡ false → front at (drop at text) ≡ Err e → lex_from text (suc n) at found ≡ Err e
  unfolding lex_from
  one_fail e before solid h = rw (inside before, solid, h) refl

  pub one_take : (k : Kind) (l : ℕ) → at < length text → is_blank (get_or text at 0) ≡ false → front at (drop at text) ≡ Ok (k, l)
      → lex_from text (suc n) at found ≡ lex_from text n (at + l) (found ++ place k at (at + l) ∷ [])
  unfolding lex_from
  one_take k l before solid h = rw (inside before, solid, h) refl

module _ (text : List ℕ) (x : Result (List Token) SyntaxFault) (end turn at : ℕ) (found : List Token) (more : turn < end) (h : x ≡ lex_from text (end - turn) at found) where
  turned : x ≡ lex_from text (suc (end - (turn + 1))) at found
  turned = one_more (λ n. lex_from text n at found) end turn more h

  pub lex_end : at ≡ length text → x ≡ Ok found
  lex_end is = turned ∙ one_end text (end - (turn + 1)) at found is

  pub lex_skip : at < length text → is_blank (get_or text at 0) ≡ true → x ≡ lex_from text (end - (turn + 1)) (at + 1) found
  lex_skip before blank = turned ∙ one_skip text (end - (turn + 1)) at found before blank

  pub lex_fail : (e : SyntaxFault) → at < length text → is_blank (get_or text at 0) ≡ false → front at (drop at text) ≡ Err e → x ≡ Err e
  lex_fail e before solid f = turned ∙ one_fail text (end - (turn + 1)) at found e before solid f

  pub lex_take : (k : Kind) (l : ℕ) → at < length text → is_blank (get_or text at 0) ≡ false → front at (drop at text) ≡ Ok (k, l)
      → x ≡ lex_from text (end - (turn + 1)) (at + l) (found ++ place k at (at + l) ∷ [])
  lex_take k l before solid f = turned ∙ one_take text (end - (turn + 1)) at found k l before solid f
