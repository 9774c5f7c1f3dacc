-- Tokens by turns over the text.
use Rattle.std.specs.Prelude.{ℕ, zero, suc, ◌+◌, Bool, true, false, if◌then◌else◌, ◌==◌, List, [], ◌∷◌, ◌++◌, length, take, drop, slice_index, Option, Some, None, Result, Ok, Err}
use Rattle.std.specs.List.{prefix_len}
use Rattle.jm_base.specs.declared.refusal.Cause.{Cause}
use Rattle.jm_base.specs.declared.refusal.Cause.TheVariants as causes
use Rattle.jm_lexer.specs.declared.token.Mark.{Mark}
use Rattle.jm_lexer.specs.declared.token.Kind.{Kind}
use Rattle.jm_lexer.specs.declared.token.Kind.TheVariants as kinds
use Rattle.jm_lexer.specs.declared.token.Token.{Token}
use Rattle.jm_lexer.specs.declared.fault.SyntaxFault.{SyntaxFault}
use Rattle.jm_lexer.specs.Faults.{fault_at}
use Rattle.jm_lexer.specs.Words.{is_letter, is_word, is_number, is_blank, begins_number, word_kind, number_of, one_sign, two_sign}

-- the content after an opening quote, and its length with the closing quote; a doubled quote is one
abbrev pub content_from : Bool → List ℕ → ℕ → List ℕ → Option (List ℕ × ℕ)
content_from true found n [] = Some (found, n)
content_from false found n [] = None
content_from true found n (b ∷ z) = if b == 39 then content_from false (found ++ 39 ∷ []) (n + 1) z else Some (found, n)
content_from false found n (b ∷ z) = if b == 39 then content_from true found (n + 1) z else content_from false (found ++ b ∷ []) (n + 1) z

-- the content after an opening quote, and its length with the closing quote; none where the text is not closed
unfoldable pub content : List ℕ → Option (List ℕ × ℕ)
content z = content_from false [] 0 z

-- a token's kind and length, or the fault that stands at its place
abbrev pub Front : Type 0
Front = Result (Kind × ℕ) SyntaxFault

-- a text, its opening quote counted too, or Token
abbrev pub text_by : ℕ → Option (List ℕ × ℕ) → Front
text_by at None = Err (fault_at at causes.Token)
text_by at (Some f) = Ok (kinds.Text f.0, f.1 + 1)

-- the longest run of letters and digits, as a keyword or an identifier
unfoldable pub word_front : List ℕ → Front
word_front z = Ok (word_kind (take (prefix_len is_word z) z), prefix_len is_word z)

-- a number word of this length, or the fault of its cause
abbrev pub number_by : ℕ → ℕ → Result ℕ Cause → Front
number_by at n (Ok value) = Ok (kinds.Number value, n)
number_by at n (Err cause) = Err (fault_at at cause)

-- the longest run of letters, digits and `.`, as a number or its fault
unfoldable pub number_front : ℕ → List ℕ → Front
number_front at z = number_by at (prefix_len is_number z) (number_of (take (prefix_len is_number z) z))

-- a sign of one character, or Token
abbrev pub one_by : ℕ → Option Mark → Front
one_by at None = Err (fault_at at causes.Token)
one_by at (Some mark) = Ok (kinds.Mark mark, 1)

-- a sign of two characters, or else what one character alone gives
abbrev pub two_by : Front → Option Mark → Front
two_by one None = one
two_by one (Some mark) = Ok (kinds.Mark mark, 2)

-- a sign of two characters, else one of one character, else Token
abbrev pub sign_front : ℕ → List ℕ → Front
sign_front at [] = Err (fault_at at causes.Token)
sign_front at (b ∷ []) = one_by at (one_sign b)
sign_front at (b ∷ c ∷ z) = two_by (one_by at (one_sign b)) (two_sign b c)

-- the longest token at the front of what is left at this place
unfoldable pub front : ℕ → List ℕ → Front
front at [] = Err (fault_at at causes.Token)
front at (b ∷ z) =
    if b == 39 then text_by at (content z)
    else (if is_letter b then word_front (b ∷ z)
    else (if begins_number (b ∷ z) then number_front at (b ∷ z)
    else sign_front at (b ∷ z)))

-- the token of this kind with this start and this end
abbrev pub place : Kind → ℕ → ℕ → Token
place kind start end = record { kind = kind; start = start; end = end }

-- goes on after a token
abbrev pub after_front : (Kind × ℕ → Result (List Token) SyntaxFault) → Front → Result (List Token) SyntaxFault
after_front go (Err e) = Err e
after_front go (Ok t) = go t

-- each turn takes a byte at least, so as many turns as bytes are enough
unfoldable pub lex_from : List ℕ → ℕ → ℕ → List Token → Result (List Token) SyntaxFault
lex_from text zero at found = Ok found
lex_from text (suc n) at found =
    if at == length text then Ok found
    else (if is_blank (slice_index text at) then lex_from text n (at + 1) found
    else after_front (λ t. lex_from text n (at + t.1) (found ++ place t.0 at (at + t.1) ∷ [])) (front at (drop at text)))

-- the tokens of the text, or its first lexical fault
unfoldable pub tokens : List ℕ → Result (List Token) SyntaxFault
tokens text = lex_from text (length text) 0 []
