-- A chain of arithmetic with a step is a number or UNKNOWN, and so UNKNOWN as a condition.
use Rattle.std.proofs.Common.{◌≡◌, ℤ, ◌<◌, arith, sym, List, [], ◌∷◌, length, map, fold, Option, Some, None, refl}
use Rattle.jm_tree.specs.declared.tree.Additive.{Additive}
use Rattle.jm_tree.specs.declared.tree.Multiplicative.{Multiplicative}
use Rattle.jm_eval.specs.declared.truth.Truth.TheVariants as t
use Rattle.jm_eval.specs.Values.{Value, Unknown, Boolean, Number, Text, number_of, on_numbers, condition_of, additive, multiplicative, add, multiply}

of_number : (n : Option ℤ) → condition_of (number_of n) ≡ t.Unknown
of_number None = refl
of_number (Some n) = refl

of_step : (operation : ℤ → ℤ → Option ℤ) (v w : Value) → condition_of (on_numbers operation v w) ≡ t.Unknown
of_step operation (Number a) (Number b) = of_number (operation a b)
of_step operation (Number a) Unknown = refl
of_step operation (Number a) (Boolean b) = refl
of_step operation (Number a) (Text b) = refl
of_step operation Unknown w = refl
of_step operation (Boolean a) w = refl
of_step operation (Text a) w = refl

of_steps : {S : Type 0} (next : Value → S → Value) (all : (v : Value) (s : S) → condition_of (next v s) ≡ t.Unknown) (v : Value) (s : S) (steps : List S)
    → condition_of (fold next v (s ∷ steps)) ≡ t.Unknown
of_steps next all v s [] = all v s
of_steps next all v s (r ∷ steps) = of_steps next all (next v s) r steps

pub sum_unknown : {X : Type 0} (f : X → Additive × Value) (v : Value) (steps : List X) → 0 < length steps → t.Unknown ≡ condition_of (fold add v (map f steps))
sum_unknown f v [] more = absurd (omega arith)
sum_unknown f v (s ∷ steps) more = sym (of_steps add (λ w r. of_step (additive r.0) w r.1) v (f s) (map f steps))

pub product_unknown : {X : Type 0} (f : X → Multiplicative × Value) (v : Value) (steps : List X) → 0 < length steps → t.Unknown ≡ condition_of (fold multiply v (map f steps))
product_unknown f v [] more = absurd (omega arith)
product_unknown f v (s ∷ steps) more = sym (of_steps multiply (λ w r. of_step (multiplicative r.0) w r.1) v (f s) (map f steps))
