-- What `parse` answers at a signed type is the integer that the text writes.
use Rattle.std.proofs.Common.{◌≡◌, ◌≢◌, ℕ, ◌+◌, ◌-◌, ◌^◌, ◌<◌, Bool, true, false, cond, ◌&&◌, ◌==◌, nat_lt, List, length, drop, get_or, Option, Some, None, Result, Ok, Err, refl, sym, ◌∙◌, ap, arith, ℤ, pos, neg_ℤ, eqb-true}
use Rattle.std.proofs.lemmas.Bool.Decides.{nat_tests}
use Rattle.std.proofs.lemmas.Str.Parse.{IsNumeralModel, numerals_by_value, tells_all_ascii_digits, parse_signed_minus, parse_signed_plain, parse_signed_plus, without_leading_plus_none, without_leading_plus_plus}
use Rattle.std.specs.Result.{OkIff, result_ok}
use Rattle.std.proofs.lemmas.Bool.{eqb-false}
use Rattle.std.specs.Str.{all_ascii_digits}
use Rattle.std.specs.Str.Parse.{digits_value, ParsesSigned, starts_with_minus, without_leading_plus}
use Rattle.jm_property.specs.Conversions.{is_numeral, integer_of}
use mir.Syntax.{Width}
use mir.Val.{hbits}

-- a result that is Ok where a test answers true is the value that the test guards
guarded : {E : Type 0} {Q : Type 0} (r : Result ℤ E) (test : Bool) (v : ℤ) → OkIff r Q v → (test ≡ true → Q) → (Q → test ≡ true) → result_ok r ≡ cond test (Some v) None
guarded (Ok x) true v h says told = ap Some h.1
guarded (Ok x) false v h says told = let e : false ≡ true = told h.0 in cc
guarded (Err e) true v h says told = absurd (h (says refl))
guarded (Err e) false v h says told = refl

-- the test of a numeral below a bound
in_range : List ℕ → ℕ → Bool
in_range ds n = is_numeral ds && nat_lt (digits_value 10 ds) n

in_range-true : (ds : List ℕ) (n : ℕ) → in_range ds n ≡ true → (all_ascii_digits ds ≡ true) × (0 < length ds) × (digits_value 10 ds < n)
unfolding in_range
in_range-true ds n e = grind (arith, nat_tests)

true-in_range : (ds : List ℕ) (n : ℕ) → all_ascii_digits ds ≡ true → 0 < length ds → digits_value 10 ds < n → in_range ds n ≡ true
unfolding in_range
true-in_range ds n e p l = grind (arith, nat_tests)

own : IsNumeralModel (λ ds. all_ascii_digits ds ≡ true) (digits_value 10)
own = numerals_by_value _ tells_all_ascii_digits

-- what is read of the text, by whether it begins with a minus
read : ℕ → List ℕ → Bool → Option ℤ
read half bs minus =
    let ds = cond minus (drop 1 bs) (without_leading_plus bs) in
    cond (in_range ds (half + cond minus 1 0))
    (Some (cond minus (neg_ℤ (pos (digits_value 10 ds))) (pos (digits_value 10 ds)))) None

minus_read : {E : Type 0} (w : Width) (bs : List ℕ) (r : Result ℤ E) → ParsesSigned w 10 bs r → get_or bs 0 0 ≡ 45 → result_ok r ≡ read (2 ^ hbits w) bs true
unfolding read
minus_read w bs r h e =
    guarded r (in_range (drop 1 bs) (2 ^ hbits w + 1)) _ (parse_signed_minus own w bs r h e)
    (λ t. let p = in_range-true (drop 1 bs) (2 ^ hbits w + 1) t in (p.0, p.1, omega (arith, p.2)))
    (λ p. true-in_range (drop 1 bs) (2 ^ hbits w + 1) p.0 p.1 (omega (arith, p.2)))

plus_read : {E : Type 0} (w : Width) (bs : List ℕ) (r : Result ℤ E) → ParsesSigned w 10 bs r → get_or bs 0 0 ≡ 43 → result_ok r ≡ read (2 ^ hbits w) bs false
unfolding read
plus_read w bs r h e =
    let front : without_leading_plus bs ≡ drop 1 bs = without_leading_plus_plus bs e in
    rw front
    (guarded r (in_range (drop 1 bs) (2 ^ hbits w + 0)) _ (parse_signed_plus own w bs r h e)
    (λ t. let p = in_range-true (drop 1 bs) (2 ^ hbits w + 0) t in (p.0, p.1, omega (arith, p.2)))
    (λ p. true-in_range (drop 1 bs) (2 ^ hbits w + 0) p.0 p.1 (omega (arith, p.2))))

plain_read : {E : Type 0} (w : Width) (bs : List ℕ) (r : Result ℤ E) → ParsesSigned w 10 bs r → get_or bs 0 0 ≢ 43 → get_or bs 0 0 ≢ 45 → result_ok r ≡ read (2 ^ hbits w) bs false
unfolding read
plain_read w bs r h no_plus no_minus =
    let front : without_leading_plus bs ≡ bs = without_leading_plus_none bs no_plus in
    rw front
    (guarded r (in_range bs (2 ^ hbits w + 0)) _ (parse_signed_plain own w bs r h no_plus no_minus)
    (λ t. let p = in_range-true bs (2 ^ hbits w + 0) t in (p.0, p.1, omega (arith, p.2)))
    (λ p. true-in_range bs (2 ^ hbits w + 0) p.0 p.1 (omega (arith, p.2))))

signed_read : {E : Type 0} (w : Width) (bs : List ℕ) (r : Result ℤ E) → ParsesSigned w 10 bs r → result_ok r ≡ read (2 ^ hbits w) bs (starts_with_minus bs)
signed_read {E} w bs r h = by (get_or bs 0 0 == 45) refl
  where
    no_minus : (p : Bool) → (get_or bs 0 0 == 43) ≡ p → get_or bs 0 0 ≢ 45 → result_ok r ≡ read (2 ^ hbits w) bs false
    no_minus true p n = plus_read w bs r h (eqb-true _ _ p)
    no_minus false p n = plain_read w bs r h (eqb-false _ _ p) n

    by : (m : Bool) → starts_with_minus bs ≡ m → result_ok r ≡ read (2 ^ hbits w) bs (starts_with_minus bs)
    by true m = minus_read w bs r h (eqb-true _ _ m) ∙ ap (read (2 ^ hbits w) bs) (sym m)
    by false m = no_minus (get_or bs 0 0 == 43) refl (eqb-false _ _ m) ∙ ap (read (2 ^ hbits w) bs) (sym m)

-- what `parse` answers is the integer of so many bits that the text writes
pub parsed : {E : Type 0} (w : Width) (bits : ℕ) (bs : List ℕ) (r : Result ℤ E) → hbits w ≡ bits - 1 → ParsesSigned w 10 bs r → result_ok r ≡ integer_of bits bs
unfolding read in_range
parsed w bits bs r e h = signed_read w bs r h ∙ ap (λ half. read (2 ^ half) bs (starts_with_minus bs)) e
