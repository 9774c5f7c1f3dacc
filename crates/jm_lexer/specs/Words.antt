-- Characters, keywords and numbers.
use Rattle.std.specs.Prelude.{ℕ, ◌+◌, ◌-◌, ◌*◌, ◌==◌, nat_lt, nat_le, Bool, false, ◌&&◌, ◌||◌, if◌then◌else◌, List, [], ◌∷◌, length, take, slice_index, Option, Some, None, Result, Ok, Err}
use Rattle.std.specs.Char.{is_ascii_digit, digit_value}
use Rattle.std.specs.List.{prefix_len, list_all, list_any}
use Rattle.std.specs.Option.{option_map}
use Rattle.jm_base.specs.declared.refusal.Cause.{Cause}
use Rattle.jm_base.specs.declared.refusal.Cause.TheVariants as causes
use Rattle.jm_identifier.specs.Words as words
use Rattle.jm_identifier.specs.declared.word.Keyword.{Keyword}
use Rattle.jm_identifier.specs.declared.word.Keyword.TheVariants as keywords
use Rattle.jm_lexer.specs.declared.token.Mark.{Mark}
use Rattle.jm_lexer.specs.declared.token.Mark.TheVariants as m
use Rattle.jm_lexer.specs.declared.token.Kind.{Kind}
use Rattle.jm_lexer.specs.declared.token.Kind.TheVariants as kinds

-- what is made of a thing where there is one, another value where there is none
abbrev pub if_some : {A B : Type 0} → Option A → B → (A → B) → B
if_some None other f = other
if_some (Some a) other f = f a

-- 2^63, the greatest value of a number
abbrev pub limit : ℕ
limit = 9223372036854775808

-- a letter
abbrev pub is_letter : ℕ → Bool
is_letter b = words.is_letter b

-- what an identifier goes on with: a letter or a digit
abbrev pub is_word : ℕ → Bool
is_word b = words.is_letter_or_digit b

-- what a number word goes on with: a letter, a digit or a `.`
abbrev pub is_number : ℕ → Bool
is_number b = is_word b || b == 46

-- space, tab, form feed, line feed and carriage return
abbrev pub is_blank : ℕ → Bool
is_blank b = b == 32 || b == 9 || b == 12 || b == 10 || b == 13

-- a keyword as a token
abbrev pub mark_of : Keyword → Mark
mark_of keywords.Null = m.Null
mark_of keywords.True = m.True
mark_of keywords.False = m.False
mark_of keywords.Not = m.Not
mark_of keywords.And = m.And
mark_of keywords.Or = m.Or
mark_of keywords.Between = m.Between
mark_of keywords.Like = m.Like
mark_of keywords.In = m.In
mark_of keywords.Is = m.Is
mark_of keywords.Escape = m.Escape

-- the keyword that a word is, in any ASCII case
unfoldable pub keyword_of : List ℕ → Option Mark
keyword_of w = option_map mark_of (words.keyword_of w)

-- a word is its keyword, or an identifier
abbrev pub word_kind : List ℕ → Kind
word_kind w = if_some (keyword_of w) (kinds.Name w) (λ mark. kinds.Mark mark)

-- a word begins with a digit, or with a `.` directly followed by a digit
abbrev pub begins_number : List ℕ → Bool
begins_number [] = false
begins_number (b ∷ z) = is_ascii_digit b || (b == 46 && is_ascii_digit (slice_index z 0))

-- the final L or l
abbrev pub is_long : ℕ → Bool
is_long b = b == 76 || b == 108

-- a word without its final L or l
unfoldable pub stem : List ℕ → List ℕ
stem w = if is_long (slice_index w (length w - 1)) then take (length w - 1) w else w

-- the digits after a leading 0, and their base
abbrev pub zero_digits : List ℕ → List ℕ × ℕ
zero_digits [] = (48 ∷ [], 10)
zero_digits (c ∷ z) = if c == 120 || c == 88 then (z, 16) else (c ∷ z, 8)

-- the digits of a word, and their base
abbrev pub digits_of : List ℕ → List ℕ × ℕ
digits_of [] = ([], 10)
digits_of (b ∷ z) = if b == 48 then zero_digits z else (b ∷ z, 10)

-- a digit of the base: `a` to `f`, in any case, are 10 to 15
abbrev pub is_digit_in : ℕ → ℕ → Bool
is_digit_in base b = nat_lt (digit_value b) base

-- one digit of the base at least, and nothing else
abbrev pub are_digits : ℕ → List ℕ → Bool
are_digits base z = nat_lt 0 (length z) && list_all (is_digit_in base) z

-- the plain value of digits in a base, after the digits that made `value`
abbrev pub value_from : ℕ → ℕ → List ℕ → ℕ
value_from base value [] = value
value_from base value (b ∷ z) = value_from base (value * base + digit_value b) z

-- `e E f F d D`
abbrev pub is_float_mark : ℕ → Bool
is_float_mark b = b == 101 || b == 69 || b == 102 || b == 70 || b == 100 || b == 68

-- a floating word: it holds a `.`, or is decimal digits directly followed by one of `e E f F d D`
abbrev pub is_floating : List ℕ → Bool
is_floating w = list_any (λ b. b == 46) w || is_float_mark (slice_index w (prefix_len is_ascii_digit w))

-- at most 2^63
abbrev pub bounded : ℕ → Result ℕ Cause
bounded value = if nat_le value limit then Ok value else Err causes.Number

-- the value of a number word, or why it has none
unfoldable pub number_of : List ℕ → Result ℕ Cause
number_of w =
    if are_digits (digits_of (stem w)).1 (digits_of (stem w)).0 then bounded (value_from (digits_of (stem w)).1 0 (digits_of (stem w)).0)
    else (if is_floating w then Err causes.Floating else Err causes.Number)

-- the signs of one character
abbrev pub one_sign : ℕ → Option Mark
one_sign b =
    if b == 61 then Some m.Equal
    else (if b == 60 then Some m.Less
    else (if b == 62 then Some m.Greater
    else (if b == 43 then Some m.Plus
    else (if b == 45 then Some m.Minus
    else (if b == 42 then Some m.Times
    else (if b == 47 then Some m.Divide
    else (if b == 40 then Some m.Open
    else (if b == 41 then Some m.Close
    else (if b == 44 then Some m.Comma
    else None)))))))))

-- the signs of two characters
abbrev pub two_sign : ℕ → ℕ → Option Mark
two_sign b c =
    if b == 60 && c == 62 then Some m.NotEqual
    else (if b == 60 && c == 61 then Some m.LessOrEqual
    else (if b == 62 && c == 61 then Some m.GreaterOrEqual
    else None))
