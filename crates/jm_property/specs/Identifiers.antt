-- What an identifier is (Jakarta Messaging 3.1, section 3.8.1.1).
use Rattle.std.specs.Prelude.{ℕ, Bool, ◌&&◌, not, List, is_some}
use Rattle.jm_identifier.specs.Words.{is_word, keyword_of}
pub use Rattle.jm_identifier.specs.Words.{is_letter_or_digit}

-- an identifier: a letter, then letters and digits, and no keyword
abbrev pub is_identifier : List ℕ → Bool
is_identifier text = is_word text && not (is_some (keyword_of text))
