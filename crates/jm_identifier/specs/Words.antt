-- The letters of identifiers, and the keywords of selectors (Jakarta Messaging 3.1, section 3.8.1.1).
use Rattle.std.specs.Prelude.{ℕ, Bool, false, ◌&&◌, ◌||◌, ◌==◌, if◌then◌else◌, List, [], ◌∷◌, Option, Some, None, codes}
use Rattle.std.specs.Char.{is_ascii_alphabetic, is_ascii_digit}
use Rattle.std.specs.List.{list_all}
use Rattle.std.specs.Str.{str_eq_ignore_ascii_case}
use Rattle.jm_identifier.specs.declared.word.Keyword.{Keyword}
use Rattle.jm_identifier.specs.declared.word.Keyword.TheVariants as k

-- a letter: of ASCII, `_` or `$`
abbrev pub is_letter : ℕ → Bool
is_letter byte = is_ascii_alphabetic byte || byte == 95 || byte == 36

-- a letter or a decimal digit
abbrev pub is_letter_or_digit : ℕ → Bool
is_letter_or_digit byte = is_letter byte || is_ascii_digit byte

-- a letter, then letters and digits
abbrev pub is_word : List ℕ → Bool
is_word [] = false
is_word (first ∷ rest) = is_letter first && list_all is_letter_or_digit rest

-- the keyword that a word is, in any ASCII case
abbrev pub keyword_of : List ℕ → Option Keyword
keyword_of w =
    if str_eq_ignore_ascii_case w (codes "null") then Some k.Null
    else (if str_eq_ignore_ascii_case w (codes "true") then Some k.True
    else (if str_eq_ignore_ascii_case w (codes "false") then Some k.False
    else (if str_eq_ignore_ascii_case w (codes "not") then Some k.Not
    else (if str_eq_ignore_ascii_case w (codes "and") then Some k.And
    else (if str_eq_ignore_ascii_case w (codes "or") then Some k.Or
    else (if str_eq_ignore_ascii_case w (codes "between") then Some k.Between
    else (if str_eq_ignore_ascii_case w (codes "like") then Some k.Like
    else (if str_eq_ignore_ascii_case w (codes "in") then Some k.In
    else (if str_eq_ignore_ascii_case w (codes "is") then Some k.Is
    else (if str_eq_ignore_ascii_case w (codes "escape") then Some k.Escape
    else None))))))))))
