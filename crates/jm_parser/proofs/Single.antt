-- The one character of a text, by its first two characters.
use Rattle.std.proofs.Common.{◌≡◌, ℕ, List, [], ◌∷◌, ◌++◌, length, slice_get, Some, None, ap, sym, arith}
use Rattle.std.specs.Char.{encode_utf8}
use Rattle.std.specs.Str.{chars, IsUtf8}
use Rattle.jm_tree.specs.Sorts.{only, single}
use Rattle.std.proofs.lemmas.Str.{chars_past_char}

pub single_one : (bs rest : List ℕ) (c : ℕ) → IsUtf8 bs → bs ≡ encode_utf8 c ++ rest → length rest ≡ 0 → Some c ≡ single bs
unfolding single chars
single_one bs [] c h e z = sym (ap only (chars_past_char bs [] c h e))
single_one bs (x ∷ rest) c h e z = absurd (omega arith)

pub single_more : (bs rest : List ℕ) (c d : ℕ) → IsUtf8 bs → bs ≡ encode_utf8 c ++ rest → Some d ≡ slice_get (chars rest) 0 → None ≡ single bs
unfolding single
single_more bs rest c d h e z = by_chars (chars rest) z (chars_past_char bs rest c h e)
  where
    by_chars : (cs : List ℕ) → Some d ≡ slice_get cs 0 → chars bs ≡ c ∷ cs → None ≡ only (chars bs)
    by_chars [] z e = absurd (cc)
    by_chars (x ∷ xs) z e = sym (ap only e)
