-- The tokens of a text, apart from any order of reading: whitespace and words in turn, each the longest at its place.
use Rattle.std.specs.Prelude.{◌≡◌, ◌≢◌, ℕ, ◌+◌, ◌≤◌, ◌==◌, Bool, true, not, ◌||◌, if◌then◌else◌, List, [], ◌∷◌, ◌++◌, length, take, drop, Some, is_some, Result, Ok, Err}
use Rattle.std.specs.List.{list_all}
use Rattle.jm_base.specs.declared.refusal.Cause.{Cause}
use Rattle.jm_base.specs.declared.refusal.Cause.TheVariants as causes
use Rattle.jm_lexer.specs.declared.token.Mark.{Mark}
use Rattle.jm_lexer.specs.declared.token.Kind.{Kind}
use Rattle.jm_lexer.specs.declared.token.Kind.TheVariants as kinds
use Rattle.jm_lexer.specs.declared.token.Token.{Token}
use Rattle.jm_lexer.specs.declared.fault.SyntaxFault.{SyntaxFault}
use Rattle.jm_lexer.specs.Faults.{fault_at}
use Rattle.jm_lexer.specs.Words.{is_letter, is_word, is_number, is_blank, begins_number, word_kind, number_of, one_sign, two_sign}
use Rattle.jm_lexer.specs.Lex.{place}

-- a content as it stands between quotes: each quote in it twice
abbrev pub doubled : List ℕ → List ℕ
doubled [] = []
doubled (b ∷ z) = if b == 39 then 39 ∷ 39 ∷ doubled z else b ∷ doubled z

-- a number word is a number, or has a cause for being none
abbrev pub number_kind : Result ℕ Cause → Result Kind Cause
number_kind (Ok value) = Ok (kinds.Number value)
number_kind (Err cause) = Err cause

-- the byte is no whitespace, no letter, no digit, no quote and no sign
abbrev pub is_stray : ℕ → Bool
is_stray b = not (is_blank b || (is_word b || (b == 39 || is_some (one_sign b))))

-- a word, and the kind of token that it spells or the cause for which it spells none
pub data Word : List ℕ → Result Kind Cause → Type 0 where
  name : (b : ℕ) (z : List ℕ) → is_letter b ≡ true → list_all is_word z ≡ true → Word (b ∷ z) (Ok (word_kind (b ∷ z)))
  number : (w : List ℕ) → begins_number w ≡ true → list_all is_number w ≡ true → Word w (number_kind (number_of w))
  quoted : (content : List ℕ) → Word (39 ∷ (doubled content ++ 39 ∷ [])) (Ok (kinds.Text content))
  unclosed : (content : List ℕ) → Word (39 ∷ doubled content) (Err causes.Token)
  one : (b : ℕ) (mark : Mark) → one_sign b ≡ Some mark → Word (b ∷ []) (Ok (kinds.Mark mark))
  two : (b c : ℕ) (mark : Mark) → two_sign b c ≡ Some mark → Word (b ∷ c ∷ []) (Ok (kinds.Mark mark))
  stray : (b : ℕ) → is_stray b ≡ true → Word (b ∷ []) (Err causes.Token)

-- a word of this length begins here, and no longer one does
pub record Longest (z : List ℕ) (n : ℕ) (found : Result Kind Cause) : Type 0 where
  pub within : n ≤ length z
  pub spelled : Word (take n z) found
  pub most : (m : ℕ) (other : Result Kind Cause) → m ≤ length z → Word (take m z) other → m ≤ n

-- a token and those after it, or their fault
abbrev pub followed : Token → Result (List Token) SyntaxFault → Result (List Token) SyntaxFault
followed t (Ok toks) = Ok (t ∷ toks)
followed t (Err e) = Err e

-- what is left at this place is whitespace and longest words in turn: their tokens, or the first word that spells none
pub data LexesFrom : ℕ → List ℕ → Result (List Token) SyntaxFault → Type 0 where
  end : {at : ℕ} → LexesFrom at [] (Ok [])
  blank : {at b : ℕ} {z : List ℕ} {found : Result (List Token) SyntaxFault} → is_blank b ≡ true → LexesFrom (at + 1) z found → LexesFrom at (b ∷ z) found
  token : {at : ℕ} {z : List ℕ} {found : Result (List Token) SyntaxFault} {kind : Kind} (n : ℕ) → Longest z n (Ok kind) → LexesFrom (at + n) (drop n z) found
      → LexesFrom at z (followed (place kind at (at + n)) found)
  wrong : {at : ℕ} {z : List ℕ} {cause : Cause} (n : ℕ) → Longest z n (Err cause) → LexesFrom at z (Err (fault_at at cause))

-- the text has these tokens, or this first lexical fault
abbrev pub Lexes : List ℕ → Result (List Token) SyntaxFault → Type 0
Lexes text found = LexesFrom 0 text found

-- what a reader of words answers: the tokens, or the first lexical fault, unless memory runs out
abbrev pub Answers : List ℕ → Result (List Token) SyntaxFault → Type 0
Answers text (Ok toks) = Lexes text (Ok toks)
Answers text (Err e) = e.cause ≢ causes.Memory → Lexes text (Err e)
