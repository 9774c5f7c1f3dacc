-- A field of each kind that is read is one that was written, and what was written is read again.
use Rattle.std.proofs.Common.{◌≡◌, ℕ, zero, suc, ◌+◌, ◌^◌, ◌<◌, ◌≤◌, Bool, true, false, cond, ltb, List, [], ◌∷◌, ◌++◌, length, take, drop, Option, Some, None, Ok, Err, refl, sym, ◌∙◌, ap, subst, append_assoc, arith, inl, inr}
use Rattle.std.specs.Int.{Width, w16, w32, w64, byte_len, from_be_bytes, to_be_bytes}
use Rattle.std.specs.List.{concat}
use Rattle.std.specs.Str.{is_utf8}
use Rattle.std.proofs.lemmas.Bool.{cases_lt, ltb-false, ltb-true, lt-ltb, le-ltb}
use Rattle.std.proofs.lemmas.List.{append-nil, take_at, drop_at, take-append-drop, length-append, length-take, get_or-drop, get_or-take, get_or_past}
use Rattle.std.proofs.lemmas.Nat.{be_bytes_2, be_bytes_4, be_bytes_8, from_be_bytes-to_be_bytes_2, from_be_bytes-to_be_bytes_4, from_be_bytes-to_be_bytes_8}
use Rattle.jm_dest.specs.Numbers.{long_end}
use Rattle.jm_format.specs.Limits.{number_end, length_end}
use Rattle.jm_format.specs.Format as format
use Rattle.jm_format.specs.Messages.{AreBytes, IsBlock, IsText}
use Rattle.jm_format.specs.Reading.{Outcome, Rule, allowed_field, passing, byte_at, number_at, block_of, block_at, text_at, moment_at}
use Rattle.jm_reading.specs.Exact.{left_of, IsRead}
use Rattle.jm_reading.proofs.Codec.{AreBytes-rest, same_read, same_stop}

AreBytes-drop : (n : ℕ) (bytes : List ℕ) → AreBytes bytes → AreBytes (drop n bytes)
AreBytes-drop n bytes are i = rw get_or-drop (are (n + i))

AreBytes-take : (n : ℕ) (bytes : List ℕ) → AreBytes bytes → AreBytes (take n bytes)
AreBytes-take n bytes are i =
    elim (cases_lt i n) [
      | inl lt ↦ rw (get_or-take n bytes i 0 lt) (are i)
      | inr le ↦ rw (get_or_past (take n bytes) i 0 (omega (arith, length-take n bytes))) (omega arith)
    ]

-- what stands in front is one of these values and no other, spelled so
pub record IsField {A : Type 0} (IsValue : A → Type 0) (spelling : A → List ℕ) (at : List ℕ → Option (A × List ℕ)) : Type 0 where
  pub takes : (bytes : List ℕ) (value : A) (rest : List ℕ) → AreBytes bytes → at bytes ≡ Some (value, rest) → IsValue value × (bytes ≡ spelling value ++ rest)
  pub again : (value : A) (rest : List ℕ) → IsValue value → at (spelling value ++ rest) ≡ Some (value, rest)

abbrev found : {A : Type 0} → A × List ℕ → Option (A × List ℕ)
found pair = Some pair

same_found : {A : Type 0} (p q : A × List ℕ) → found p ≡ found q → p ≡ q
same_found p q e = cc

missing_is_none : {A : Type 0} (p : A × List ℕ) → None ≡ found p → ⊥
missing_is_none p e = cc

-- a test that did not fail
kept : {B : Type 0} (b : Bool) (x y : B) → cond b None (Some x) ≡ Some y → (b ≡ false) × (x ≡ y)
kept true x y e = absurd cc
kept false x y e = (refl, cc)

-- ---- a field that has to be allowed

module _ {A : Type 0} (IsValue : A → Type 0) (spelling : A → List ℕ) (at : List ℕ → Option (A × List ℕ)) (allowed : A → Bool) where
  abbrev Allowed : A → Type 0
  Allowed value = IsValue value × (allowed value ≡ true)

  abbrev rule : Rule A
  rule bytes = allowed_field allowed bytes (at bytes)

  again : IsField IsValue spelling at → (value : A) (rest : List ℕ) → Allowed value → rule (spelling value ++ rest) ≡ Ok (value, rest)
  again field value rest is =
      ap (allowed_field allowed (spelling value ++ rest)) (field.again value rest is.0)
      ∙ ap (λ b. cond {A = Outcome A} b (Ok (value, rest)) (Err (spelling value ++ rest))) is.1

  cases : (bytes : List ℕ) (here : Option (A × List ℕ)) (b : Bool) (p : A × List ℕ) → allowed_field allowed bytes here ≡ Ok p → (here ≡ Some p) × (allowed p.0 ≡ true)
  cases bytes None b p e = absurd cc
  cases bytes (Some q) b p e = by (allowed q.0) refl e
    where
      by : (c : Bool) → allowed q.0 ≡ c → cond {A = Outcome A} c (Ok q) (Err bytes) ≡ Ok p → (Some q ≡ Some p) × (allowed p.0 ≡ true)
      by true is e =
          let same = same_read q p e in
          (ap found same, ap (λ (r : A × List ℕ). allowed r.0) (sym same) ∙ is)
      by false is e = absurd cc

  stays : (bytes : List ℕ) (here : Option (A × List ℕ)) (left : List ℕ) → allowed_field allowed bytes here ≡ Err left → bytes ≡ left
  stays bytes None left e = same_stop {A = A} bytes left e
  stays bytes (Some q) left e = by (allowed q.0) e
    where
      by : (c : Bool) → cond {A = Outcome A} c (Ok q) (Err bytes) ≡ Err left → bytes ≡ left
      by true e = absurd cc
      by false e = same_stop {A = A} bytes left e

  single : (value : A) (rest : List ℕ) → concat (spelling value ∷ []) ++ rest ≡ spelling value ++ rest
  single value rest = ap (λ (bytes : List ℕ). bytes ++ rest) (append-nil (spelling value))

  pub IsRead-field : IsField IsValue spelling at → (some : A) → Allowed some → IsRead Allowed (λ value. spelling value ∷ []) rule
  IsRead-field field some valid = record {
    takes = λ bytes value rest are e.
        let one = cases bytes (at bytes) true (value, rest) e in
        let two = field.takes bytes value rest are one.0 in
        ((two.0, one.1), two.1 ∙ sym (single value rest));
    again = λ value rest is. ap rule (single value rest) ∙ again field value rest is;
    some = (some, valid);
    stops = λ bytes left are e. (some, 0, valid, stays bytes (at bytes) left e);
    longest = longest;
  }
    where
      passes : (outcome : Outcome A) (value : A) (rest : List ℕ) → outcome ≡ Ok (value, rest) → length (left_of outcome) ≤ length rest
      passes outcome value rest e = subst (λ (o : Outcome A). length (left_of o) ≤ length rest) (sym e) (omega arith)

      bounded : (bytes : List ℕ) (outcome : Outcome A) → rule bytes ≡ outcome → AreBytes bytes → length (left_of outcome) ≤ length bytes
      bounded bytes (Ok p) e are =
          let one = cases bytes (at bytes) true p e in
          let two = field.takes bytes p.0 p.1 are one.0 in
          omega (arith, ap length two.1, length-append (spelling p.0) p.1)
      bounded bytes (Err left) e are = omega (arith, ap length (stays bytes (at bytes) left e))

      longest : (bytes : List ℕ) (value : A) (count : ℕ) (rest : List ℕ) → AreBytes bytes → Allowed value → bytes ≡ concat (take count (spelling value ∷ [])) ++ rest → length (left_of (rule bytes)) ≤ length rest
      longest bytes value zero rest are is e = omega (arith, bounded bytes (rule bytes) refl are, ap length e)
      longest bytes value (suc zero) rest are is e = passes (rule bytes) value rest (ap rule (e ∙ single value rest) ∙ again field value rest is)
      longest bytes value (suc (suc n)) rest are is e = passes (rule bytes) value rest (ap rule (e ∙ single value rest) ∙ again field value rest is)

-- ---- a field that has to pass a test

pub IsField-passing : {A : Type 0} {IsValue : A → Type 0} {spelling : A → List ℕ} {at : List ℕ → Option (A × List ℕ)} (allowed : A → Bool) → IsField IsValue spelling at → IsField (λ value. IsValue value × (allowed value ≡ true)) spelling (λ bytes. passing allowed (at bytes))
IsField-passing {A = A} {spelling = spelling} {at = at} allowed field = record {
  takes = λ bytes value rest are e.
      let one = cases (at bytes) (value, rest) e in
      let two = field.takes bytes value rest are one.0 in
      ((two.0, one.1), two.1);
  again = λ value rest is.
      ap (passing allowed) (field.again value rest is.0) ∙ ap (λ b. cond {A = Option (A × List ℕ)} b (Some (value, rest)) None) is.1;
}
  where
    cases : (here : Option (A × List ℕ)) (p : A × List ℕ) → passing allowed here ≡ Some p → (here ≡ Some p) × (allowed p.0 ≡ true)
    cases None p e = absurd cc
    cases (Some q) p e = by (allowed q.0) refl e
      where
        by : (c : Bool) → allowed q.0 ≡ c → cond {A = Option (A × List ℕ)} c (Some q) None ≡ Some p → (Some q ≡ Some p) × (allowed p.0 ≡ true)
        by true is e =
            let same = same_found q p e in
            (ap found same, ap (λ (r : A × List ℕ). allowed r.0) (sym same) ∙ is)
        by false is e = absurd cc

-- ---- bytes

pub byte_field : IsField (λ _. Unit {0}) format.byte byte_at
byte_field = record {
  takes = takes;
  again = λ value rest is. refl;
}
  where
    takes : (bytes : List ℕ) (value : ℕ) (rest : List ℕ) → AreBytes bytes → byte_at bytes ≡ Some (value, rest) → Unit {0} × (bytes ≡ format.byte value ++ rest)
    takes [] value rest are e = absurd cc
    takes (b ∷ bytes) value rest are e =
        let same = same_found (b, bytes) (value, rest) e in
        (tt, ap (λ (p : ℕ × List ℕ). p.0 ∷ p.1) same)

-- ---- numbers

pub record IsWide (w : Width) (limit : ℕ) : Type 0 where
  pub len : (n : ℕ) → length (to_be_bytes w n) ≡ byte_len w
  pub back : (bytes : List ℕ) → length bytes ≡ byte_len w → AreBytes bytes → to_be_bytes w (from_be_bytes w bytes) ≡ bytes
  pub again : (n : ℕ) → n < limit → from_be_bytes w (to_be_bytes w n) ≡ n
  pub below : (bytes : List ℕ) → AreBytes bytes → from_be_bytes w bytes < limit

pub wide16 : IsWide w16 (2 ^ 16)
wide16 = record {
  len = λ n. refl;
  back = λ bytes len are. be_bytes_2 bytes _ len are refl;
  again = λ n lt. from_be_bytes-to_be_bytes_2 n lt;
  below = λ bytes are. omega (arith, are 0, are 1);
}

pub wide32 : IsWide w32 number_end
wide32 = record {
  len = λ n. refl;
  back = λ bytes len are. be_bytes_4 bytes _ len are refl;
  again = λ n lt. from_be_bytes-to_be_bytes_4 n lt;
  below = λ bytes are. omega (arith, are 0, are 1, are 2, are 3);
}

pub wide64 : IsWide w64 length_end
wide64 = record {
  len = λ n. refl;
  back = λ bytes len are. be_bytes_8 bytes _ len are refl;
  again = λ n lt. from_be_bytes-to_be_bytes_8 n lt;
  below = λ bytes are. omega (arith, are 0, are 1, are 2, are 3, are 4, are 5, are 6, are 7);
}

pub number_field : (w : Width) (limit : ℕ) → IsWide w limit → IsField (λ n. n < limit) (to_be_bytes w) (number_at w)
number_field w limit wide = record {
  takes = λ bytes value rest are e.
      let g = kept (ltb (length bytes) (byte_len w)) (from_be_bytes w (take (byte_len w) bytes), drop (byte_len w) bytes) (value, rest) e in
      let long : byte_len w ≤ length bytes = ltb-false _ _ g.0 in
      let value-is : from_be_bytes w (take (byte_len w) bytes) ≡ value = ap (λ (p : ℕ × List ℕ). p.0) g.1 in
      let rest-is : drop (byte_len w) bytes ≡ rest = ap (λ (p : ℕ × List ℕ). p.1) g.1 in
      let front : to_be_bytes w value ≡ take (byte_len w) bytes = rw (← value-is) (wide.back (take (byte_len w) bytes) (omega (arith, length-take (byte_len w) bytes)) (AreBytes-take (byte_len w) bytes are)) in
      (rw (← value-is) (wide.below (take (byte_len w) bytes) (AreBytes-take (byte_len w) bytes are)), rw (front, ← rest-is) (sym (take-append-drop (byte_len w) bytes)));
  again = λ value rest lt.
      let len = wide.len value in
      let long : ltb (length (to_be_bytes w value ++ rest)) (byte_len w) ≡ false = le-ltb _ _ (omega (arith, length-append (to_be_bytes w value) rest)) in
      rw (long, take_at (to_be_bytes w value) rest (byte_len w) len, drop_at (to_be_bytes w value) rest (byte_len w) len, wide.again value lt) refl;
}

-- ---- lengths with as many bytes

block_takes : (bytes value rest : List ℕ) → AreBytes bytes → block_at bytes ≡ Some (value, rest) → IsBlock value × (bytes ≡ format.block value ++ rest)
unfolding block_at
block_takes bytes value rest are e = by (number_at w64 bytes) refl e
  where
    by : (size : Option (ℕ × List ℕ)) → number_at w64 bytes ≡ size → block_of size ≡ Some (value, rest) → IsBlock value × (bytes ≡ format.block value ++ rest)
    by None is e = absurd cc
    by (Some size) is e =
        let g = kept (ltb (length size.1) size.0) (take size.0 size.1, drop size.0 size.1) (value, rest) e in
        let one = (number_field w64 length_end wide64).takes bytes size.0 size.1 are is in
        let after : AreBytes size.1 = AreBytes-rest (to_be_bytes w64 size.0) size.1 (subst AreBytes one.1 are) in
        let long : size.0 ≤ length size.1 = ltb-false _ _ g.0 in
        let value-is : take size.0 size.1 ≡ value = ap (λ (p : List ℕ × List ℕ). p.0) g.1 in
        let rest-is : drop size.0 size.1 ≡ rest = ap (λ (p : List ℕ × List ℕ). p.1) g.1 in
        let len : length value ≡ size.0 = omega (arith, ap length value-is, length-take size.0 size.1) in
        let whole : size.1 ≡ value ++ rest = sym (take-append-drop size.0 size.1) ∙ (λ i. value-is i ++ rest-is i) in (
          record { each = subst AreBytes value-is (AreBytes-take size.0 size.1 after); short = omega (arith, one.0) },
          one.1 ∙ (λ i. to_be_bytes w64 (sym len i) ++ whole i) ∙ sym (append_assoc (to_be_bytes w64 (length value)) value rest),
        )

block_again : (value rest : List ℕ) → length value < length_end → block_at (format.block value ++ rest) ≡ Some (value, rest)
unfolding block_at
block_again value rest lt =
    let parts : format.block value ++ rest ≡ to_be_bytes w64 (length value) ++ (value ++ rest) = append_assoc (to_be_bytes w64 (length value)) value rest in
    let size : number_at w64 (format.block value ++ rest) ≡ Some (length value, value ++ rest) = ap (number_at w64) parts ∙ (number_field w64 length_end wide64).again (length value) (value ++ rest) lt in
    let long : ltb (length (value ++ rest)) (length value) ≡ false = le-ltb _ _ (omega (arith, length-append value rest)) in
    ap block_of size ∙ rw (long, take_at value rest (length value) refl, drop_at value rest (length value) refl) refl

pub block_field : IsField IsBlock format.block block_at
block_field = record { takes = block_takes; again = λ value rest is. block_again value rest is.short }

-- ---- texts and moments

short_field : IsField (λ value. length value < length_end) format.block block_at
short_field = record {
  takes = λ bytes value rest are e. let one = block_takes bytes value rest are e in (one.0.short, one.1);
  again = block_again;
}

pub text_field : IsField IsText format.block text_at
unfolding text_at
text_field = record {
  takes = λ bytes value rest are e.
      let one = (IsField-passing is_utf8 short_field).takes bytes value rest are e in
      (record { utf8 = one.0.1; short = one.0.0 }, one.1);
  again = λ value rest is. (IsField-passing is_utf8 short_field).again value rest (is.short, is.utf8);
}

pub moment_field : IsField (λ n. n < long_end) (to_be_bytes w64) moment_at
unfolding moment_at
moment_field = record {
  takes = λ bytes value rest are e.
      let one = (IsField-passing (λ n. ltb n long_end) (number_field w64 length_end wide64)).takes bytes value rest are e in
      (ltb-true _ _ one.0.1, one.1);
  again = λ value rest lt.
      (IsField-passing (λ n. ltb n long_end) (number_field w64 length_end wide64)).again value rest (omega arith, lt-ltb _ _ lt);
}
