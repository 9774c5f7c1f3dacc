-- The test of a pattern says that the text fits it.
use Rattle.std.proofs.Common.{◌≡◌, ℕ, Bool, true, ◌==◌, List, [], ◌∷◌, ◌++◌, refl, ap, ◌∙◌, arith, eq-eqb, inl, inr}
use Rattle.std.proofs.lemmas.Bool.{and_parts, or_cases, or_left, or_right}
use Rattle.std.proofs.lemmas.Bool.Decides.{nat_tests}
use Rattle.jm_tree.specs.declared.pattern.Item.{Item}
use Rattle.jm_tree.specs.declared.pattern.Item.TheVariants.{One, Any, Only}
use Rattle.jm_eval.specs.Patterns.{Fits, any_suffix, matches}

pub suffix_at : (test : List ℕ → Bool) (cs : List ℕ) → any_suffix test cs ≡ true → (front : List ℕ) × (back : List ℕ) × (cs ≡ front ++ back) × (test back ≡ true)
suffix_at test [] h = ([], [], refl, h)
suffix_at test (c ∷ cs) h = elim (or_cases (test (c ∷ cs)) (any_suffix test cs) h) [
  | inl here ↦ ([], c ∷ cs, refl, here)
  | inr there ↦ let found = suffix_at test cs there in (c ∷ found.0, found.1, ap (λ l. c ∷ l) found.2, found.3)
]

at_suffix : (test : List ℕ → Bool) (front back : List ℕ) → test back ≡ true → any_suffix test (front ++ back) ≡ true
at_suffix test [] [] h = h
at_suffix test [] (b ∷ back) h = or_left _ _ h
at_suffix test (c ∷ front) back h = or_right _ _ (at_suffix test front back h)

pub test_fits : (is : List Item) (cs : List ℕ) → matches is cs ≡ true → Fits cs is
test_fits [] [] h = refl
test_fits [] (c ∷ cs) h = absurd (cc)
test_fits (Any ∷ is) cs h = let found = suffix_at (matches is) cs h in (found.0, found.1, found.2, tt, test_fits is found.1 found.3)
test_fits (One ∷ is) [] h = absurd (cc)
test_fits (One ∷ is) (c ∷ cs) h = (c ∷ [], cs, refl, (c, refl), test_fits is cs h)
test_fits (Only d ∷ is) [] h = absurd (cc)
test_fits (Only d ∷ is) (c ∷ cs) h =
    let both = and_parts (c == d) (matches is cs) h in
    let same : c ≡ d = grind (arith, nat_tests) in
    (c ∷ [], cs, refl, ap (λ x. x ∷ []) same, test_fits is cs both.1)

pub fits_test : (is : List Item) (cs : List ℕ) → Fits cs is → matches is cs ≡ true
fits_test [] cs h = rw h refl
fits_test (Any ∷ is) cs h = rw h.2 (at_suffix (matches is) h.0 h.1 (fits_test is h.1 h.4))
fits_test (One ∷ is) cs h =
    let split : cs ≡ h.3.0 ∷ h.1 = h.2 ∙ ap (λ f. f ++ h.1) h.3.1 in
    rw split (fits_test is h.1 h.4)
fits_test (Only d ∷ is) cs h =
    let split : cs ≡ d ∷ h.1 = h.2 ∙ ap (λ f. f ++ h.1) h.3 in
    rw (split, eq-eqb d d refl) (fits_test is h.1 h.4)
