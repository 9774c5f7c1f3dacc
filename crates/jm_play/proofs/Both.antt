-- Two statements of one outcome.
use Rattle.std.proofs.Common.{Result, Ok, Err, IfOk}

-- what holds of an outcome, and what else does
pub both : {A E : Type 0} (P Q : A → Type 0) (told : Result A E) → IfOk told P → IfOk told Q → IfOk told (λ a. P a × Q a)
both P Q (Ok a) p q = (p, q)
both P Q (Err e) p q = tt
