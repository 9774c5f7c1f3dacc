-- The rules one level down.
use Rattle.std.proofs.Common.{◌≡◌, ℕ, suc, ◌-◌, ◌<◌, ap, arith}
use Rattle.jm_tree.specs.FaultOrder.{below, either, condition, unary}
use Rattle.jm_tree.specs.Operators.{Ors, Nots, Signs}

pub below_ors : (n : ℕ) → 0 < n → below n Ors ≡ either (n - 1) (below (n - 1))
unfolding below
below_ors n some = let e : n ≡ suc (n - 1) = omega arith in ap (λ k. below k Ors) e

pub below_nots : (n : ℕ) → 0 < n → below n Nots ≡ condition (n - 1) (below (n - 1))
unfolding below
below_nots n some = let e : n ≡ suc (n - 1) = omega arith in ap (λ k. below k Nots) e

pub below_signs : (n : ℕ) → 0 < n → below n Signs ≡ unary (n - 1) (below (n - 1))
unfolding below
below_signs n some = let e : n ≡ suc (n - 1) = omega arith in ap (λ k. below k Signs) e
