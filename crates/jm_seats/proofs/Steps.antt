-- Lists that a loop goes through, one place more.
use Rattle.std.proofs.Common.{◌≡◌, ◌≢◌, ◌≤◌, ◌⊎◌, inl, inr, ℕ, ◌+◌, ◌<◌, true, false, List, [], ◌∷◌, ◌++◌, length, get_or, set, eqb, ap, sym, subst, ◌∙◌, arith}
use Rattle.std.proofs.Math.ListN.{get_or-append}
use Rattle.std.proofs.Math.Seq.{get_or-append_seam}
use Rattle.std.proofs.lemmas.Bool.Decides.{eqb_tells}
use Rattle.std.proofs.lemmas.List.{get_or-set_same, get_or-set_other, get_or_read}

-- what is put behind a list is as what stands at its place in another, and so are all before it
pub pushed_each : {A B X : Type 0} (f : A → X) (g : B → X) (xs : List A) (ys : List B) (a : A) (b : B) (n : ℕ) → length xs ≡ n → n < length ys → b ≡ get_or ys n b → f a ≡ g b
    → ((k : ℕ) (d : A) (e : B) → k < n → f (get_or xs k d) ≡ g (get_or ys k e))
    → (k : ℕ) (d : A) (e : B) → k < n + 1 → f (get_or (xs ++ a ∷ []) k d) ≡ g (get_or ys k e)
pushed_each f g xs ys a b n len within read same each k d e less = go (eqb_tells k n)
  where
    go : ((eqb k n ≡ true) × (k ≡ n)) ⊎ ((eqb k n ≡ false) × (k ≢ n)) → f (get_or (xs ++ a ∷ []) k d) ≡ g (get_or ys k e)
    go (inl h) =
        let there : get_or (xs ++ a ∷ []) k d ≡ a = ap (λ j. get_or (xs ++ a ∷ []) j d) (h.1 ∙ sym len) ∙ get_or-append_seam xs a [] d in
        let was : b ≡ get_or ys k e = get_or_read ys n b within read e ∙ ap (λ j. get_or ys j e) (sym h.1) in
        ap f there ∙ same ∙ ap g was
    go (inr h) = ap f (get_or-append xs (a ∷ []) d k (omega (arith, less, h.1, len))) ∙ each k d e (omega (arith, less, h.1))

-- what is written at a place is as what stands there in another list, and so are all before it
pub set_each : {A B X : Type 0} (f : A → X) (g : B → X) (xs : List A) (ys : List B) (a : A) (b : B) (n : ℕ) → n < length xs → n < length ys → b ≡ get_or ys n b → f a ≡ g b
    → ((k : ℕ) (d : A) (e : B) → k < n → f (get_or xs k d) ≡ g (get_or ys k e))
    → (k : ℕ) (d : A) (e : B) → k < n + 1 → f (get_or (set xs n a) k d) ≡ g (get_or ys k e)
set_each f g xs ys a b n here within read same each k d e less = go (eqb_tells k n)
  where
    go : ((eqb k n ≡ true) × (k ≡ n)) ⊎ ((eqb k n ≡ false) × (k ≢ n)) → f (get_or (set xs n a) k d) ≡ g (get_or ys k e)
    go (inl h) =
        let there : get_or (set xs n a) k d ≡ a = ap (λ j. get_or (set xs n a) j d) h.1 ∙ get_or-set_same xs n a d here in
        let was : b ≡ get_or ys k e = get_or_read ys n b within read e ∙ ap (λ j. get_or ys j e) (sym h.1) in
        ap f there ∙ same ∙ ap g was
    go (inr h) = ap f (get_or-set_other xs n k a d h.1) ∙ each k d e (omega (arith, less, h.1))

-- a fact of what is written at a place and of all before it
pub set_all : {A : Type 0} (P : A → Type 0) (xs : List A) (a : A) (n : ℕ) → n < length xs → P a → ((k : ℕ) (d : A) → k < n → P (get_or xs k d))
    → (k : ℕ) (d : A) → k < n + 1 → P (get_or (set xs n a) k d)
set_all P xs a n here fact all k d less = go (eqb_tells k n)
  where
    go : ((eqb k n ≡ true) × (k ≡ n)) ⊎ ((eqb k n ≡ false) × (k ≢ n)) → P (get_or (set xs n a) k d)
    go (inl h) = subst P (sym (ap (λ j. get_or (set xs n a) j d) h.1 ∙ get_or-set_same xs n a d here)) fact
    go (inr h) = subst P (sym (get_or-set_other xs n k a d h.1)) (all k d (omega (arith, less, h.1)))

-- what stands behind that place stays
pub set_left : {A : Type 0} (xs all : List A) (a : A) (n : ℕ) → ((k : ℕ) (d : A) → n ≤ k → get_or xs k d ≡ get_or all k d)
    → (k : ℕ) (d : A) → n + 1 ≤ k → get_or (set xs n a) k d ≡ get_or all k d
set_left xs all a n left k d less = get_or-set_other xs n k a d (omega (arith, less)) ∙ left k d (omega (arith, less))
