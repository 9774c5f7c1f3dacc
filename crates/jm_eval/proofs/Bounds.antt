-- A number fits 64 bits exactly where the test says so.
use Rattle.std.proofs.Common.{◌≡◌, ℤ, pos, negsuc, Some, None, FitsSigned, w64, arith}
use Rattle.std.proofs.lemmas.Bool.Decides.{nat_tests}
use Rattle.jm_eval.specs.Values.{bounded}

pub bounded_some : (z : ℤ) → FitsSigned w64 z → bounded z ≡ Some z
bounded_some (pos n) h = grind (arith, nat_tests)
bounded_some (negsuc n) h = grind (arith, nat_tests)

pub bounded_none : (z : ℤ) → (FitsSigned w64 z → ⊥) → bounded z ≡ None
bounded_none (pos n) h = grind (arith, nat_tests)
bounded_none (negsuc n) h = grind (arith, nat_tests)
