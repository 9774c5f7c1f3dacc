-- A text that the library reads as UTF-8 passes the test for it, and no other does.
use Rattle.std.proofs.Common.{◌≡◌, ℕ, Bool, true, false, cond, List, Option, Some, None, refl, sym, ◌∙◌, ap}
use Rattle.std.specs.Str.{IsUtf8, is_utf8}
use Rattle.std.proofs.lemmas.Str.{IsUtf8-from_is_utf8, is_utf8-from_IsUtf8}
use Rattle.jm_format.specs.Reading.{passing}

pub utf8_passes : (field : Option (List ℕ × List ℕ)) (bytes rest text : List ℕ) → Some (bytes, rest) ≡ field → text ≡ bytes → IsUtf8 bytes → Some (text, rest) ≡ passing is_utf8 field
utf8_passes field bytes rest text is same valid =
    ap (λ (t : List ℕ). Some (t, rest)) same
    ∙ sym (ap (λ b. cond b (Some (bytes, rest)) None) (is_utf8-from_IsUtf8 bytes valid))
    ∙ ap (passing is_utf8) is

none_unless : (bytes rest : List ℕ) (b : Bool) → is_utf8 bytes ≡ b → (IsUtf8 bytes → ⊥) → cond {A = Option (List ℕ × List ℕ)} b (Some (bytes, rest)) None ≡ None
none_unless bytes rest true is invalid = absurd (invalid (IsUtf8-from_is_utf8 bytes is))
none_unless bytes rest false is invalid = refl

pub utf8_fails : (field : Option (List ℕ × List ℕ)) (bytes rest : List ℕ) → Some (bytes, rest) ≡ field → (IsUtf8 bytes → ⊥) → None ≡ passing is_utf8 field
utf8_fails field bytes rest is invalid =
    sym (none_unless bytes rest (is_utf8 bytes) refl invalid) ∙ ap (passing is_utf8) is
