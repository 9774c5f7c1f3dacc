-- One character more at the end of a text.
use Rattle.std.proofs.Common.{◌≡◌, ℕ, List, [], ◌∷◌, ◌++◌, Option, Some, map, refl, ap, sym, ◌∙◌, append-nil}
use Rattle.std.specs.Str.{chars, IsUtf8}
use Rattle.std.specs.Char.{IsScalar}
use Rattle.std.proofs.lemmas.Str.{chars-append, chars_past_char, chars-nil, IsUtf8-encode}
use lib.Utf8.{encode}
use Rattle.jm_tree.specs.Patterns.{IsLiteral}

map_append : (xs : List ℕ) (y : ℕ) → map Some (xs ++ y ∷ []) ≡ map Some xs ++ Some y ∷ []
map_append [] y = refl
map_append (x ∷ xs) y = ap (λ l. Some x ∷ l) (map_append xs y)

pub literal_more : (before after : List ℕ) (c : ℕ) (places : List (Option ℕ)) → chars after ≡ chars before ++ c ∷ [] → IsLiteral before places
    → IsLiteral after (places ++ Some c ∷ [])
literal_more before after c places e h = ap (λ l. l ++ Some c ∷ []) h ∙ sym (ap (map Some) e ∙ map_append (chars before) c)

one_char : (c : ℕ) → IsScalar c → chars (encode c) ≡ c ∷ []
one_char c scalar = chars_past_char (encode c) [] c (IsUtf8-encode c scalar) (sym (append-nil (encode c))) ∙ ap (λ l. c ∷ l) chars-nil

pub char_more : (before : List ℕ) (c : ℕ) → IsUtf8 before → IsScalar c → chars (before ++ encode c) ≡ chars before ++ c ∷ []
char_more before c text scalar = chars-append before (encode c) text ∙ ap (λ l. chars before ++ l) (one_char c scalar)
