-- The characters of a text, from the end.
use Rattle.std.proofs.Common.{◌≡◌, ℕ, List, [], ◌∷◌, ◌++◌, length, ap, sym, subst, ◌∙◌, refl, append_assoc, append-nil, arith}
use Rattle.std.specs.Str.{chars, IsUtf8}
use Rattle.std.proofs.lemmas.Str.{chars-append, chars-nil, chars_past_char, encodes-chars, IsUtf8-past_char}
use lib.Utf8.{encode, encodes}

pub nothing : (xs : List ℕ) → length xs ≡ 0 → xs ≡ []
nothing [] h = refl
nothing (x ∷ xs) h = absurd (omega (arith, h))

pub utf8_after : (xs rest : List ℕ) → IsUtf8 (encodes xs ++ rest) → IsUtf8 rest
utf8_after [] rest h = h
utf8_after (x ∷ xs) rest h = utf8_after xs rest (IsUtf8-past_char (encodes (x ∷ xs) ++ rest) (encodes xs ++ rest) x h (append_assoc (encode x) (encodes xs) rest))

pub last_of : (text before : List ℕ) (c : ℕ) → IsUtf8 text → IsUtf8 before → text ≡ before ++ encode c → chars text ≡ chars before ++ c ∷ []
last_of text before c t b e =
    let all : IsUtf8 (encodes (chars before) ++ encode c) = subst IsUtf8 (e ∙ ap (λ l. l ++ encode c) (sym (encodes-chars before b))) t in
    let one : IsUtf8 (encode c) = utf8_after (chars before) (encode c) all in
    ap chars e ∙ chars-append before (encode c) b
    ∙ ap (λ l. chars before ++ l) (chars_past_char (encode c) [] c one (sym (append-nil (encode c))) ∙ ap (λ l. c ∷ l) chars-nil)
