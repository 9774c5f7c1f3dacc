-- Facts on numbers that rise, for a search by halves.
use Rattle.std.proofs.Common.{◌≡◌, ℕ, ◌+◌, ◌-◌, ◌<◌, ◌≤◌, List, length, get_or, arith, suc, zero}
use Rattle.std.specs.List.Sorted.{IsStrictlyIncreasing}

module _ (xs : List ℕ) (rising : IsStrictlyIncreasing xs) where
  -- a later number is as much larger at least as it stands later
  apart : (i n : ℕ) → i + n < length xs → get_or xs i 0 + n ≤ get_or xs (i + n) 0
  apart i zero l = let same : i + 0 ≡ i = omega arith in rw same (omega arith)
  apart i (suc n) l =
      let before = apart i n (omega (arith, l)) in
      let step = rising (i + n) (omega (arith, l)) in
      let next : i + suc n ≡ i + n + 1 = omega arith in
      rw next (omega (arith, before, step))

  pub spread : (i k : ℕ) → i ≤ k → k < length xs → get_or xs i 0 + (k - i) ≤ get_or xs k 0
  spread i k le l =
      let sum : i + (k - i) ≡ k = omega (arith, le) in
      let far = apart i (k - i) (omega (arith, sum, l)) in
      rw sum at far

  -- each number is its place at least
  pub place_below : (k : ℕ) → k < length xs → k ≤ get_or xs k 0
  place_below k l = omega (arith, spread 0 k (omega arith) l)
