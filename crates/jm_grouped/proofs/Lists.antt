-- Facts on lists.
use Rattle.std.proofs.Common.{◌≡◌, ◌+◌, ◌-◌, ◌<◌, ◌≤◌, inl, inr, ℕ, Bool, true, false, cond, List, [], ◌∷◌, length, get_or, arith, refl, sym, ◌∙◌, ap, subst, suc, zero}
use Rattle.std.specs.List.{AllPairs, Contains, filter, insert}
use Rattle.std.proofs.lemmas.List.Edits.{length-insert, get_or-insert_below, get_or-insert_at, get_or-insert_above}
use Rattle.jm_slots.proofs.Items.{sides}

-- a test that cannot be true is false
pub refuted : (b : Bool) → (b ≡ true → ⊥) → b ≡ false
refuted true h = absurd (h refl)
refuted false h = refl

module _ {X : Type 0} where
  apart : (R : X → X → Type 0) (a b c d : X) → a ≡ c → b ≡ d → R c d → R a b
  apart R a b c d e f h = subst (λ x. R x b) (sym e) (subst (λ y. R c y) (sym f) h)

  -- one more element, behind those that it is to follow and before those that it is to precede
  pub AllPairs-insert : (R : X → X → Type 0) (xs : List X) (at : ℕ) (y : X) → AllPairs R xs → at ≤ length xs → ((k : ℕ) (d : X) → k < at → R (get_or xs k d) y) → ((k : ℕ) (d : X) → at ≤ k → k < length xs → R y (get_or xs k d)) → AllPairs R (insert xs at y)
  AllPairs-insert R xs at y h within low high j k d less last = elim (sides k at) [
    | inl below ↦ apart R _ _ _ _ (get_or-insert_below xs at y d j (omega (arith, less, below)) within) (get_or-insert_below xs at y d k below within) (h j k d less (omega (arith, below, within)))
    | inr (inl same) ↦ apart R _ _ _ _ (get_or-insert_below xs at y d j (omega (arith, less, same)) within) (ap (λ n. get_or (insert xs at y) n d) same ∙ get_or-insert_at xs at y d within) (low j d (omega (arith, less, same)))
    | inr (inr above) ↦ (
        let behind : at ≤ k - 1 = omega (arith, above) in
        let inside : k - 1 < length xs = omega (arith, above, last, length-insert xs at y within) in
        let here : get_or (insert xs at y) k d ≡ get_or xs (k - 1) d =
        ap (λ n. get_or (insert xs at y) n d) (omega (arith, above)) ∙ get_or-insert_above xs at y d (k - 1) behind within in
        elim (sides j at) [
          | inl below ↦ apart R _ _ _ _ (get_or-insert_below xs at y d j below within) here (h j (k - 1) d (omega (arith, below, above)) inside)
          | inr (inl same) ↦ apart R _ _ _ _ (ap (λ n. get_or (insert xs at y) n d) same ∙ get_or-insert_at xs at y d within) here (high (k - 1) d behind inside)
          | inr (inr over) ↦ apart R _ _ _ _ (ap (λ n. get_or (insert xs at y) n d) (omega (arith, over)) ∙ get_or-insert_above xs at y d (j - 1) (omega (arith, over)) within) here (h (j - 1) (k - 1) d (omega (arith, over, less)) inside)
        ])
  ]

  pub Contains-insert : (xs : List X) (at : ℕ) (y x : X) → at ≤ length xs → Contains xs x → Contains (insert xs at y) x
  Contains-insert xs at y x within k = elim (sides k.0 at) [
    | inl below ↦ (k.0, omega (arith, k.1, length-insert xs at y within), get_or-insert_below xs at y x k.0 below within ∙ k.2)
    | inr (inl same) ↦ (k.0 + 1, omega (arith, k.1, length-insert xs at y within), get_or-insert_above xs at y x k.0 (omega (arith, same)) within ∙ k.2)
    | inr (inr above) ↦ (k.0 + 1, omega (arith, k.1, length-insert xs at y within), get_or-insert_above xs at y x k.0 (omega (arith, above)) within ∙ k.2)
  ]

  pub Contains-inserted : (xs : List X) (at : ℕ) (y : X) → at ≤ length xs → Contains (insert xs at y) y
  Contains-inserted xs at y within = (at, omega (arith, within, length-insert xs at y within), get_or-insert_at xs at y y within)

  pub Contains-filter : (p : X → Bool) (xs : List X) (x : X) → Contains xs x → p x ≡ true → Contains (filter p xs) x
  Contains-filter p [] x k passes = absurd (omega (arith, k.1))
  Contains-filter p (y ∷ ys) x (zero, l, is) passes =
      subst (λ z. Contains (cond (p z) (z ∷ filter p ys) (filter p ys)) x) (sym is)
      (subst (λ b. Contains (cond b (x ∷ filter p ys) (filter p ys)) x) (sym passes) (0, omega arith, refl))
  Contains-filter p (y ∷ ys) x (suc k, l, is) passes =
      by (p y) (Contains-filter p ys x (k, omega (arith, l), is) passes)
    where
      by : (b : Bool) → Contains (filter p ys) x → Contains (cond b (y ∷ filter p ys) (filter p ys)) x
      by true h = (suc h.0, omega (arith, h.1), h.2)
      by false h = h
