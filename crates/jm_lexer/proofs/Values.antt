-- A value only grows with further digits.
use Rattle.std.proofs.Common.{◌≡◌, ℕ, ◌+◌, ◌*◌, ◌<◌, ◌≤◌, List, [], ◌∷◌, true, false, Ok, Err, refl, ap, sym, ◌∙◌, suc, drop, length, get_or, arith, nat_le}
use Rattle.std.proofs.Math.Seq.{drop-cons}
use Rattle.std.specs.Char.{digit_value}
use Rattle.std.proofs.lemmas.Bool.Decides.{nat_tests}
use Rattle.jm_base.specs.declared.refusal.Cause.TheVariants as causes
use Rattle.jm_lexer.specs.Words.{limit}
use Rattle.jm_lexer.specs.Words.{value_from, bounded}

pub value_grows : (base value : ℕ) (z : List ℕ) → 1 ≤ base → value ≤ value_from base value z
value_grows base value [] some = omega arith
value_grows base value (b ∷ z) some =
    let more = value_grows base (value * base + digit_value b) z some in
    let here : value ≤ value * base = grows base some in
    omega arith
  where
    grows : (base : ℕ) → 1 ≤ base → value ≤ value * base
    grows base some = grind arith

pub bounded_above : (value : ℕ) → limit < value → bounded value ≡ Err causes.Number
bounded_above value above = let no : nat_le value limit ≡ false = grind (arith, nat_tests) in rw no refl

pub bounded_within : (value : ℕ) → value ≤ limit → bounded value ≡ Ok value
bounded_within value within = let yes : nat_le value limit ≡ true = grind (arith, nat_tests) in rw yes refl

-- the value so far is too large, so the whole one is
pub bounded_turn : (base value at digit : ℕ) (z : List ℕ) → 1 ≤ base → at < length z → digit ≡ digit_value (get_or z at 0) → limit < value * base + digit
    → value_from base 0 z ≡ value_from base value (drop at z) → Err causes.Number ≡ bounded (value_from base 0 z)
bounded_turn base value at digit z some within is above h =
    let next = value * base + digit_value (get_or z at 0) in
    let grown = value_grows base next (drop (suc at) z) some in
    let large : limit < next = rw (← is) above in
    let over : limit < value_from base next (drop (suc at) z) = omega arith in
    let turn : value_from base 0 z ≡ value_from base next (drop (suc at) z) = h ∙ ap (value_from base value) (drop-cons z at 0 within) in
    sym (ap bounded turn ∙ bounded_above (value_from base next (drop (suc at) z)) over)
