-- The first row that does not fit.
use Rattle.std.proofs.Common.{◌≡◌, ◌+◌, ◌-◌, ◌<◌, ◌≤◌, ◌⊎◌, ◌∙◌, ℕ, zero, suc, Bool, true, List, [], ◌∷◌, map, ap, sym, subst, refl, length, get_or, arith, inl, inr}
use Rattle.std.specs.Prelude.{Decides}
use Rattle.std.specs.Cmp.{IsTotalOrder}
use Rattle.std.specs.List.{AllByRecursion}
use Rattle.std.specs.List.Sorted.{IsStrictlySortedBy}
use Rattle.std.specs.Ordering.{is_lt, ordering_reverse}
use Rattle.std.specs.declared.cmp.Ordering.{Ordering}
use Rattle.std.specs.declared.cmp.Ordering.TheVariants.{Less, Equal, Greater}
use Rattle.std.proofs.lemmas.Cmp.{tied_itself}
use Rattle.std.proofs.lemmas.List.{get_or_default}
use Rattle.std.proofs.lemmas.Map.Keys.{sorted_from_all_adjacent}
use Rattle.jm_loading.specs.Unfit.{AreFit, IsBehind, IsFirstUnfit, IsNext}

pub cases_le : (k n : ℕ) → k ≤ n → (k < n) ⊎ (k ≡ n)
cases_le k n l = grind arith

pub less : (r : Ordering) → is_lt r ≡ true → r ≡ Less
less Less h = refl
less Equal h = cc
less Greater h = cc

module _ {X : Type 0} (cmp : X → X → Ordering) where
  -- the test of a row and the one before it
  pub behind_first : (rows : List X) (at : ℕ) → at ≡ 0 → IsBehind cmp rows at
  behind_first rows at first k d same = absurd (omega (arith, first, same))

  pub behind_from : (rows : List X) (at : ℕ) (a b : X) → at < length rows → a ≡ get_or rows (at - 1) a → b ≡ get_or rows at b → is_lt (cmp a b) ≡ true → IsBehind cmp rows at
  behind_from rows at a b l ais bis below k d same =
      let before : k ≡ at - 1 = omega (arith, same) in
      let first : a ≡ get_or rows k d = ais ∙ ap (λ (i : ℕ). get_or rows i a) (sym before) ∙ get_or_default rows k a d (omega (arith, same, l)) in
      let next : b ≡ get_or rows at d = bis ∙ get_or_default rows at b d l in
      ap (λ x. cmp x (get_or rows at d)) (sym first) ∙ ap (λ y. cmp a y) (sym next) ∙ less (cmp a b) below

  pub behind_test : (rows : List X) (at : ℕ) (a b : X) → at < length rows → a ≡ get_or rows (at - 1) a → b ≡ get_or rows at b → 0 < at → IsBehind cmp rows at → is_lt (cmp a b) ≡ true
  behind_test rows at a b l ais bis later h =
      let before : (at - 1) + 1 ≡ at = omega (arith, later) in
      let next : b ≡ get_or rows at a = bis ∙ get_or_default rows at b a l in
      ap is_lt (ap (λ x. cmp x b) ais ∙ ap (λ y. cmp (get_or rows (at - 1) a) y) next ∙ h (at - 1) a before)

module _ {X : Type 0} (cmp : X → X → Ordering) (P : X → Type 0) where
  pub fit_none : (rows : List X) → AreFit cmp P rows 0
  fit_none rows = record { rise = λ k d l. absurd (omega (arith, l)); may = λ k d l. absurd (omega (arith, l)) }

  -- one more row
  pub fit_next : (rows : List X) (at : ℕ) → AreFit cmp P rows at → IsNext cmp P rows at → AreFit cmp P rows (at + 1)
  fit_next rows at before next = record {
    rise = λ k d l. elim (cases_le (k + 1) at (omega (arith, l))) [
      | inl below ↦ before.rise k d below
      | inr same ↦ subst (λ (i : ℕ). cmp (get_or rows k d) (get_or rows i d) ≡ Less) (sym same) (next.0 k d same)
    ];
    may = λ k d l. elim (cases_le k at (omega (arith, l))) [
      | inl below ↦ before.may k d below
      | inr same ↦ subst (λ (i : ℕ). P (get_or rows i d)) (sym same) (next.1 d)
    ];
  }

  -- what one row more says
  pub next_fit : (rows : List X) (at : ℕ) → AreFit cmp P rows (at + 1) → IsNext cmp P rows at
  next_fit rows at h = (λ k d same. subst (λ (i : ℕ). cmp (get_or rows k d) (get_or rows i d) ≡ Less) same (h.rise k d (omega (arith, same))), λ d. h.may at d (omega arith))

  pub first_unfit : (rows : List X) (at : ℕ) → at < length rows → AreFit cmp P rows at → (IsNext cmp P rows at → ⊥) → IsFirstUnfit cmp P rows at
  first_unfit rows at within before never = record { within = within; before = before; unfit = λ h. never (next_fit rows at h) }

  -- the test of a row, of which it is known that it stands behind the one before
  pub next_test : (rows : List X) (at : ℕ) (row : X) (b : Bool) → at < length rows → row ≡ get_or rows at row → IsBehind cmp rows at → Decides b (P row) → Decides b (IsNext cmp P rows at)
  next_test rows at row b within is behind test = (
    λ t. (behind, λ d. subst P (is ∙ get_or_default rows at row d within) (test.0 t)),
    λ next. test.1 (subst P (sym is) (next.1 row)),
  )

  pub fewer : (rows : List X) (n m : ℕ) → m ≤ n → AreFit cmp P rows n → AreFit cmp P rows m
  fewer rows n m l h = record { rise = λ k d w. h.rise k d (omega (arith, w, l)); may = λ k d w. h.may k d (omega (arith, w, l)) }

-- each of the rows before is below the one behind them
module _ {X : Type 0} {cmp : X → X → Ordering} (total : IsTotalOrder cmp) (P : X → Type 0) (rows : List X) (n : ℕ) (h : AreFit cmp P rows n) where
  chain : (k m : ℕ) (d : X) → k + m + 1 < n → cmp (get_or rows k d) (get_or rows (k + m + 1) d) ≡ Less
  chain k zero d l = subst (λ (i : ℕ). cmp (get_or rows k d) (get_or rows i d) ≡ Less) {x = k + 1} {y = k + zero + 1} (omega arith) (h.rise k d (omega (arith, l)))
  chain k (suc m) d l = subst (λ (i : ℕ). cmp (get_or rows k d) (get_or rows i d) ≡ Less) {x = (k + m + 1) + 1} {y = k + suc m + 1} (omega arith)
      (total.trans (get_or rows k d) (get_or rows (k + m + 1) d) (get_or rows ((k + m + 1) + 1) d) (chain k m d (omega (arith, l))) (h.rise (k + m + 1) d (omega (arith, l))))

  pub below_later : (k i : ℕ) (d : X) → k < i → i < n → cmp (get_or rows k d) (get_or rows i d) ≡ Less
  below_later k i d l w = subst (λ (j : ℕ). cmp (get_or rows k d) (get_or rows j d) ≡ Less) {x = k + (i - (k + 1)) + 1} {y = i} (omega (arith, l)) (chain k (i - (k + 1)) d (omega (arith, l, w)))

  pub below_next : IsBehind cmp rows n → (k : ℕ) (d : X) → k < n → cmp (get_or rows k d) (get_or rows n d) ≡ Less
  below_next behind k d l = elim (cases_le (k + 1) n (omega (arith, l))) [
    | inl before ↦ total.trans (get_or rows k d) (get_or rows (n - 1) d) (get_or rows n d) (below_later k (n - 1) d (omega (arith, before)) (omega (arith, before))) (behind (n - 1) d (omega (arith, before)))
    | inr last ↦ behind k d last
  ]

-- rows fit at once that may stand at once
module _ {X : Type 0} (cmp : X → X → Ordering) (P Q : X → Type 0) (rows : List X) where
  pub fit_as : (n : ℕ) → ((k : ℕ) (d : X) → k < n → P (get_or rows k d) → Q (get_or rows k d)) → AreFit cmp P rows n → AreFit cmp Q rows n
  fit_as n to h = record { rise = h.rise; may = λ k d l. to k d l (h.may k d l) }

module _ {X : Type 0} (cmp : X → X → Ordering) (P Q : X → Type 0) (rows : List X) (at : ℕ) where
  pub unfit_as : ((k : ℕ) (d : X) → k < at + 1 → P (get_or rows k d) → Q (get_or rows k d)) → ((k : ℕ) (d : X) → k < at + 1 → Q (get_or rows k d) → P (get_or rows k d)) → IsFirstUnfit cmp P rows at → IsFirstUnfit cmp Q rows at
  unfit_as to from h = record {
    within = h.within;
    before = fit_as cmp P Q rows at (λ k d l. to k d (omega (arith, l))) h.before;
    unfit = λ q. h.unfit (fit_as cmp Q P rows (at + 1) from q);
  }

-- ---- rows that rise

module _ {X : Type 0} {cmp : X → X → Ordering} (total : IsTotalOrder cmp) (P : X → Type 0) where
  pub fit_sorted : (rows : List X) → AreFit cmp P rows (length rows) → IsStrictlySortedBy cmp rows
  unfolding IsStrictlySortedBy
  fit_sorted [] h = tt
  fit_sorted (r ∷ rows) h = sorted_from_all_adjacent total (r ∷ rows) r (λ k l. h.rise k r l)

module _ {X K : Type 0} (cmp : K → K → Ordering) (key : X → K) where
  above_at : (x : K) (xs : List X) → AllByRecursion (λ b. cmp x b ≡ Less) (map key xs) → (j : ℕ) (d : X) → j < length xs → cmp x (key (get_or xs j d)) ≡ Less
  above_at x [] h j d l = absurd (omega (arith, l))
  above_at x (y ∷ xs) h zero d l = h.0
  above_at x (y ∷ xs) h (suc j) d l = above_at x xs h.1 j d (omega (arith, l))

  -- each is below those after it
  pub far : (xs : List X) → IsStrictlySortedBy cmp (map key xs) → (i j : ℕ) (d : X) → i < j → j < length xs → cmp (key (get_or xs i d)) (key (get_or xs j d)) ≡ Less
  unfolding IsStrictlySortedBy
  far [] h i j d p l = absurd (omega (arith, l))
  far (x ∷ xs) h i zero d p l = absurd (omega (arith, p))
  far (x ∷ xs) h zero (suc j) d p l = above_at (key x) xs h.0 j d (omega (arith, l))
  far (x ∷ xs) h (suc i) (suc j) d p l = far xs h.1 i j d (omega (arith, p)) (omega (arith, l))

-- nothing is below itself
pub not_below : {K : Type 0} {cmp : K → K → Ordering} → IsTotalOrder cmp → (a b : K) → cmp a b ≡ Less → a ≡ b → ⊥
not_below {cmp = cmp} total a b below same = let tied : cmp a b ≡ Equal = ap (cmp a) (sym same) ∙ tied_itself total a in cc

-- nor are two below each other
pub not_both_below : {K : Type 0} {cmp : K → K → Ordering} → IsTotalOrder cmp → (a b : K) → cmp a b ≡ Less → cmp b a ≡ Less → ⊥
not_both_below {cmp = cmp} total a b p q = let back : cmp a b ≡ Greater = total.antisymm a b ∙ ap ordering_reverse q in cc
