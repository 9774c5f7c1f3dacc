-- A name that a property may have is one identifier of a selector.
use Rattle.std.proofs.Common.{◌≡◌, ℕ, ◌+◌, Bool, true, false, not, ◌&&◌, is_some, List, [], ◌∷◌, length, drop, Option, Some, None, Ok, refl, sym, subst, arith}
use Rattle.std.specs.List.{list_all}
use Rattle.std.proofs.Math.Seq.{take-length, drop-length}
use Rattle.jm_identifier.specs.Words as words
use Rattle.jm_identifier.specs.declared.word.Keyword.{Keyword}
use Rattle.jm_lexer.specs.declared.token.Kind.TheVariants as kinds
use Rattle.jm_lexer.specs.Words.{is_letter, is_word, keyword_of, word_kind}
use Rattle.jm_lexer.specs.Lex.{place}
use Rattle.jm_lexer.specs.Lexes.{Word, name, Longest, LexesFrom, end, token}
use Rattle.jm_property.specs.Identifiers.{is_identifier}
use Rattle.jm_property.specs.Properties.{is_settable}
use Rattle.jm_eval.specs.Laws.{IsOneIdentifier}

and_left : (p q : Bool) → (p && q) ≡ true → p ≡ true
and_left true q h = refl
and_left false q h = absurd (cc)

and_right : (p q : Bool) → (p && q) ≡ true → q ≡ true
and_right true q h = h
and_right false q h = absurd (cc)

none_of : (k : Option Keyword) → not (is_some k) ≡ true → k ≡ None
none_of None h = refl
none_of (Some k) h = absurd (cc)

is_name : (w : List ℕ) → words.keyword_of w ≡ None → word_kind w ≡ kinds.Name w
unfolding keyword_of
is_name w none = rw none refl

whole : (b : ℕ) (z : List ℕ) → is_letter b ≡ true → list_all is_word z ≡ true → word_kind (b ∷ z) ≡ kinds.Name (b ∷ z)
    → Longest (b ∷ z) (length (b ∷ z)) (Ok (kinds.Name (b ∷ z)))
whole b z letter rest kind = record {
  within = omega arith;
  spelled = subst (λ w. Word w (Ok (kinds.Name (b ∷ z)))) (sym (take-length (b ∷ z))) (subst (λ k. Word (b ∷ z) (Ok k)) kind (name b z letter rest));
  most = λ m other within word. within;
}

lone : (w : List ℕ) → Longest w (length w) (Ok (kinds.Name w)) → IsOneIdentifier w
lone w longest =
    let zero : 0 + length w ≡ length w = omega arith in
    let past : LexesFrom (0 + length w) (drop (length w) w) (Ok []) = subst (λ r. LexesFrom (0 + length w) r (Ok [])) (sym (drop-length w)) end in
    subst (λ to. LexesFrom 0 w (Ok (place (kinds.Name w) 0 to ∷ []))) zero (token (length w) longest past)

identifier_is_one : (w : List ℕ) → is_identifier w ≡ true → IsOneIdentifier w
identifier_is_one [] h = absurd (cc)
identifier_is_one (b ∷ z) h =
    let word = and_left (words.is_word (b ∷ z)) _ h in
    let none = none_of (words.keyword_of (b ∷ z)) (and_right (words.is_word (b ∷ z)) _ h) in
    lone (b ∷ z) (whole b z (and_left (is_letter b) _ word) (and_right (is_letter b) _ word) (is_name (b ∷ z) none))

pub settable_is_one : (w : List ℕ) → is_settable w ≡ true → IsOneIdentifier w
settable_is_one w h = identifier_is_one w (and_left (is_identifier w) _ h)
