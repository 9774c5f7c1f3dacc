-- Facts on lists, and on the marks of what stays in them.
use Rattle.std.proofs.Common.{◌≡◌, ◌≢◌, ◌+◌, ◌-◌, ◌<◌, ◌≤◌, ◌⊎◌, inl, inr, ℕ, Bool, true, false, cond, not, List, [], ◌∷◌, length, get_or, map, set, Some, None, arith, refl, sym, ◌∙◌, ap, subst, suc, zero}
use Rattle.std.specs.Prelude.{nat_lt, IsOk, is_ok}
use Rattle.std.specs.declared.result.Result.{Result}
use Rattle.std.specs.declared.result.Result.TheVariants.{Ok, Err}
use Rattle.std.specs.List.{All, AllPairs, Contains, filter, insert, position, position_or_len}
use Rattle.std.specs.Ordering.{is_eq, is_lt}
use Rattle.std.specs.declared.cmp.Ordering.{Ordering}
use Rattle.std.specs.declared.cmp.Ordering.TheVariants.{Less, Equal, Greater}
use Rattle.std.proofs.lemmas.Bool.Decides.{nat_tests}
use Rattle.std.proofs.lemmas.List.{get_or_default, get_or_read, get_or-set_other, get_or-set_same, length-set}
use Rattle.std.proofs.lemmas.List.Edits.{length-insert, get_or-insert_below, get_or-insert_at, get_or-insert_above}
use Rattle.std.proofs.lemmas.List.Sums.{position_or_len_is}
use Rattle.jm_indexed.specs.Order.{marks_of}

pub sides : (k at : ℕ) → (k < at) ⊎ ((at ≡ k) ⊎ (at < k))
sides k at = grind arith

pub is_less : (r : Ordering) → is_lt r ≡ true → r ≡ Less
is_less Less e = refl
is_less Equal e = cc
is_less Greater e = cc

pub is_equal : (r : Ordering) → is_eq r ≡ true → r ≡ Equal
is_equal Less e = cc
is_equal Equal e = refl
is_equal Greater e = cc

-- a test that cannot be true is false
pub refuted : (b : Bool) → (b ≡ true → ⊥) → b ≡ false
refuted true h = absurd (h refl)
refuted false h = refl

-- ---- lists

module _ {X : Type 0} where
  pub apart : (R : X → X → Type 0) (a b c d : X) → a ≡ c → b ≡ d → R c d → R a b
  apart R a b c d e f h = subst (λ x. R x b) (sym e) (subst (λ y. R c y) (sym f) h)

  -- one more element, behind those that it is to follow and before those that it is to precede
  pub AllPairs-insert : (R : X → X → Type 0) (xs : List X) (at : ℕ) (y : X) → AllPairs R xs → at ≤ length xs → ((k : ℕ) (d : X) → k < at → R (get_or xs k d) y) → ((k : ℕ) (d : X) → at ≤ k → k < length xs → R y (get_or xs k d)) → AllPairs R (insert xs at y)
  AllPairs-insert R xs at y h within low high j k d less last = elim (sides k at) [
    | inl below ↦ apart R _ _ _ _ (get_or-insert_below xs at y d j (omega (arith, less, below)) within) (get_or-insert_below xs at y d k below within) (h j k d less (omega (arith, below, within)))
    | inr (inl same) ↦ apart R _ _ _ _ (get_or-insert_below xs at y d j (omega (arith, less, same)) within) (ap (λ n. get_or (insert xs at y) n d) (sym same) ∙ get_or-insert_at xs at y d within) (low j d (omega (arith, less, same)))
    | inr (inr above) ↦ (
        let behind : at ≤ k - 1 = omega (arith, above) in
        let inside : k - 1 < length xs = omega (arith, above, last, length-insert xs at y within) in
        let here : get_or (insert xs at y) k d ≡ get_or xs (k - 1) d =
        ap (λ n. get_or (insert xs at y) n d) (omega (arith, above)) ∙ get_or-insert_above xs at y d (k - 1) behind within in
        elim (sides j at) [
          | inl below ↦ apart R _ _ _ _ (get_or-insert_below xs at y d j below within) here (h j (k - 1) d (omega (arith, below, above)) inside)
          | inr (inl same) ↦ apart R _ _ _ _ (ap (λ n. get_or (insert xs at y) n d) (sym same) ∙ get_or-insert_at xs at y d within) here (high (k - 1) d behind inside)
          | inr (inr over) ↦ apart R _ _ _ _ (ap (λ n. get_or (insert xs at y) n d) (omega (arith, over)) ∙ get_or-insert_above xs at y d (j - 1) (omega (arith, over)) within) here (h (j - 1) (k - 1) d (omega (arith, over, less)) inside)
        ])
  ]

  pub Contains-insert : (xs : List X) (at : ℕ) (y x : X) → at ≤ length xs → Contains xs x → Contains (insert xs at y) x
  Contains-insert xs at y x within k = elim (sides k.0 at) [
    | inl below ↦ (k.0, omega (arith, k.1, length-insert xs at y within), get_or-insert_below xs at y x k.0 below within ∙ k.2)
    | inr (inl same) ↦ (k.0 + 1, omega (arith, k.1, length-insert xs at y within), get_or-insert_above xs at y x k.0 (omega (arith, same)) within ∙ k.2)
    | inr (inr above) ↦ (k.0 + 1, omega (arith, k.1, length-insert xs at y within), get_or-insert_above xs at y x k.0 (omega (arith, above)) within ∙ k.2)
  ]

  pub Contains-inserted : (xs : List X) (at : ℕ) (y : X) → at ≤ length xs → Contains (insert xs at y) y
  Contains-inserted xs at y within = (at, omega (arith, within, length-insert xs at y within), get_or-insert_at xs at y y within)

  -- another element, behind those that it is to follow and before those that it is to precede
  pub AllPairs-set : (R : X → X → Type 0) (xs : List X) (at : ℕ) (y : X) → AllPairs R xs → at < length xs → ((k : ℕ) (d : X) → k < at → R (get_or xs k d) y) → ((k : ℕ) (d : X) → at < k → k < length xs → R y (get_or xs k d)) → AllPairs R (set xs at y)
  AllPairs-set R xs at y h within low high j k d less last =
      let inside : k < length xs = omega (arith, last, length-set xs at y) in
      elim (sides k at) [
        | inl below ↦ apart R _ _ _ _ (get_or-set_other xs at j y d (λ e. omega (arith, e, less, below))) (get_or-set_other xs at k y d (λ e. omega (arith, e, below))) (h j k d less inside)
        | inr (inl same) ↦ apart R _ _ _ _ (get_or-set_other xs at j y d (λ e. omega (arith, e, less, same))) (ap (λ n. get_or (set xs at y) n d) (sym same) ∙ get_or-set_same xs at y d within) (low j d (omega (arith, less, same)))
        | inr (inr above) ↦ (
            let there = get_or-set_other xs at k y d (λ e. omega (arith, e, above)) in
            elim (sides j at) [
              | inl below ↦ apart R _ _ _ _ (get_or-set_other xs at j y d (λ e. omega (arith, e, below))) there (h j k d less inside)
              | inr (inl same) ↦ apart R _ _ _ _ (ap (λ n. get_or (set xs at y) n d) (sym same) ∙ get_or-set_same xs at y d within) there (high k d above inside)
              | inr (inr over) ↦ apart R _ _ _ _ (get_or-set_other xs at j y d (λ e. omega (arith, e, over))) there (h j k d less inside)
            ])
      ]

  pub All-set : (P : X → Type 0) (xs : List X) (at : ℕ) (y : X) → All P xs → P y → All P (set xs at y)
  All-set P xs at y h here k d l =
      let inside : k < length xs = omega (arith, l, length-set xs at y) in
      elim (sides k at) [
        | inl below ↦ subst P (sym (get_or-set_other xs at k y d (λ e. omega (arith, e, below)))) (h k d inside)
        | inr (inl same) ↦ subst P (sym (ap (λ n. get_or (set xs at y) n d) (sym same) ∙ get_or-set_same xs at y d (omega (arith, same, inside)))) here
        | inr (inr above) ↦ subst P (sym (get_or-set_other xs at k y d (λ e. omega (arith, e, above)))) (h k d inside)
      ]

  -- what stands elsewhere stays
  pub Contains-set : (xs : List X) (at : ℕ) (y x : X) (k : ℕ) → k < length xs → k ≢ at → get_or xs k x ≡ x → Contains (set xs at y) x
  Contains-set xs at y x k l other is = (k, omega (arith, l, length-set xs at y), get_or-set_other xs at k y x other ∙ is)

  pub Contains-put : (xs : List X) (at : ℕ) (y : X) → at < length xs → Contains (set xs at y) y
  Contains-put xs at y within = (at, omega (arith, within, length-set xs at y), get_or-set_same xs at y y within)

  pub Contains-filter : (p : X → Bool) (xs : List X) (x : X) → Contains xs x → p x ≡ true → Contains (filter p xs) x
  Contains-filter p [] x k passes = absurd (omega (arith, k.1))
  Contains-filter p (y ∷ ys) x (zero, l, is) passes =
      subst (λ z. Contains (cond (p z) (z ∷ filter p ys) (filter p ys)) x) (sym is)
      (subst (λ b. Contains (cond b (x ∷ filter p ys) (filter p ys)) x) (sym passes) (0, omega arith, refl))
  Contains-filter p (y ∷ ys) x (suc k, l, is) passes =
      by (p y) (Contains-filter p ys x (k, omega (arith, l), is) passes)
    where
      by : (b : Bool) → Contains (filter p ys) x → Contains (cond b (y ∷ filter p ys) (filter p ys)) x
      by true h = (suc h.0, omega (arith, h.1), h.2)
      by false h = h

  -- the first place that passes
  pub position_at : (p : X → Bool) (xs : List X) (at : ℕ) (d : X) → at < length xs → ((k : ℕ) → k < at → p (get_or xs k d) ≡ false) → p (get_or xs at d) ≡ true → position p xs ≡ Some at
  position_at p xs at d within before passes =
      let is : position_or_len p xs ≡ at = position_or_len_is p xs at d (omega (arith, within)) before (λ _. passes) in
      let inside : nat_lt at (length xs) ≡ true = grind (arith, nat_tests) in
      ap (λ n. cond (nat_lt n (length xs)) (Some n) None) is ∙ ap (λ b. cond b (Some at) None) inside

  pub position_none : (p : X → Bool) (xs : List X) → ((k : ℕ) (d : X) → k < length xs → p (get_or xs k d) ≡ false) → position p xs ≡ None
  position_none p [] none = refl
  position_none p (x ∷ xs) none =
      let is : position_or_len p (x ∷ xs) ≡ length (x ∷ xs) = position_or_len_is p (x ∷ xs) (length (x ∷ xs)) x (omega arith) (λ k l. none k x l) (λ l. absurd (omega (arith, l))) in
      let past : nat_lt (length (x ∷ xs)) (length (x ∷ xs)) ≡ false = grind (arith, nat_tests) in
      ap (λ n. cond (nat_lt n (length (x ∷ xs))) (Some n) None) is ∙ ap (λ b. cond b (Some (length (x ∷ xs))) None) past

  none_passes : (p : X → Bool) (xs : List X) → length xs ≤ position_or_len p xs → (k : ℕ) (d : X) → k < length xs → p (get_or xs k d) ≡ false
  none_passes p [] h k d l = absurd (omega (arith, l))
  none_passes p (x ∷ xs) h k d l = by (p x) refl h k l (λ h k l. none_passes p xs h k d l)
    where
      by : (b : Bool) → p x ≡ b → length (x ∷ xs) ≤ cond (not b) (1 + position_or_len p xs) 0 → (k : ℕ) → k < length (x ∷ xs) → (length xs ≤ position_or_len p xs → (k : ℕ) → k < length xs → p (get_or xs k d) ≡ false) → p (get_or (x ∷ xs) k d) ≡ false
      by true e h k l later = absurd (omega (arith, h))
      by false e h zero l later = e
      by false e h (suc k) l later = later (omega (arith, h)) k (omega (arith, l))

  -- where none was found, none passes
  pub none_from_position : (p : X → Bool) (xs : List X) → position p xs ≡ None → (k : ℕ) (d : X) → k < length xs → p (get_or xs k d) ≡ false
  none_from_position p xs h = none_passes p xs (by (position_or_len p xs) (length xs) (nat_lt (position_or_len p xs) (length xs)) refl h)
    where
      by : (n m : ℕ) (b : Bool) → nat_lt n m ≡ b → cond b (Some n) None ≡ None → m ≤ n
      by n m true e h = cc
      by n m false e h = grind (arith, nat_tests)

-- a key that was read by way of a list that is lent
pub read_there : {X : Type 0} (xs : List X) (lent order : List ℕ) (at i : ℕ) (x d : X) → lent ≡ order → at < length lent → get_or lent at 0 < length xs → i ≡ get_or order at i → x ≡ get_or xs i x → x ≡ get_or xs (get_or lent at 0) d
read_there xs lent order at i x d same l w there is =
    let slot : i ≡ get_or lent at 0 = there ∙ (λ t. get_or (sym same t) at i) ∙ get_or_default lent at i 0 l in
    get_or_read xs i x (omega (arith, w, slot)) is d ∙ ap (λ n. get_or xs n d) slot

pub filter-map : {X Y : Type 0} (f : X → Y) (q : Y → Bool) (xs : List X) → filter q (map f xs) ≡ map f (filter (λ x. q (f x)) xs)
filter-map f q [] = refl
filter-map f q (x ∷ xs) = by (q (f x)) (filter-map f q xs)
  where
    by : (b : Bool) → filter q (map f xs) ≡ map f (filter (λ x. q (f x)) xs) → cond b (f x ∷ filter q (map f xs)) (filter q (map f xs)) ≡ map f (cond b (x ∷ filter (λ x. q (f x)) xs) (filter (λ x. q (f x)) xs))
    by true h = ap (λ ys. f x ∷ ys) h
    by false h = h

pub ok_is : {T E : Type 0} (r : Result T E) → IsOk r → is_ok r ≡ true
ok_is (Ok x) h = refl
ok_is (Err e) h = cc

-- ---- marks

-- the number is the place, counted from n, among the fewer keys of what stands at i among all
abbrev AtMark : {K : Type 0} → ℕ → List K → ℕ → List K → ℕ → Type 0
AtMark {K} m fewer n all i = (n ≤ m) × (m < n + length fewer) × ((d : K) → get_or fewer (m - n) d ≡ get_or all i d)

module _ {K : Type 0} (p : K → Bool) where
  -- a mark below that of those that go is the place of its key among those that stay
  pub marked : (before gone : ℕ) (keys : List K) → before + length (filter p keys) ≤ gone → (i e : ℕ) → i < length keys → get_or (marks_of p before gone keys) i e < gone →
      AtMark (get_or (marks_of p before gone keys) i e) (filter p keys) before keys i
  marked before gone [] fits i e l below = absurd (omega (arith, l))
  marked before gone (k ∷ keys) fits i e l below = by (p k) fits i l below (marked (before + 1) gone keys) (marked before gone keys)
    where
      by : (b : Bool) → before + length (cond b (k ∷ filter p keys) (filter p keys)) ≤ gone → (i : ℕ) → i < length (k ∷ keys)
          → get_or (cond b (before ∷ marks_of p (before + 1) gone keys) (gone ∷ marks_of p before gone keys)) i e < gone
          → (before + 1 + length (filter p keys) ≤ gone → (i e : ℕ) → i < length keys → get_or (marks_of p (before + 1) gone keys) i e < gone → AtMark (get_or (marks_of p (before + 1) gone keys) i e) (filter p keys) (before + 1) keys i)
          → (before + length (filter p keys) ≤ gone → (i e : ℕ) → i < length keys → get_or (marks_of p before gone keys) i e < gone → AtMark (get_or (marks_of p before gone keys) i e) (filter p keys) before keys i)
          → AtMark (get_or (cond b (before ∷ marks_of p (before + 1) gone keys) (gone ∷ marks_of p before gone keys)) i e) (cond b (k ∷ filter p keys) (filter p keys)) before (k ∷ keys) i
      by true fits zero l below here there =
          let none : before - before ≡ 0 = omega arith in
          (omega arith, omega arith, λ d. ap (λ n. get_or (k ∷ filter p keys) n d) none)
      by true fits (suc i) l below here there =
          let m = here (omega (arith, fits)) i e (omega (arith, l)) below in
          let at : ℕ = get_or (marks_of p (before + 1) gone keys) i e in
          let low : before + 1 ≤ at = m.0 in
          let high : at < before + 1 + length (filter p keys) = m.1 in
          let one : at - before ≡ suc (at - (before + 1)) = omega (arith, low) in
          (omega (arith, low), omega (arith, high), λ d. ap (λ n. get_or (k ∷ filter p keys) n d) one ∙ m.2 d)
      by false fits zero l below here there = absurd (omega (arith, below))
      by false fits (suc i) l below here there = there fits i e (omega (arith, l)) below

  -- what has such a mark stays
  pub marked_stays : (before gone : ℕ) (keys : List K) → before + length (filter p keys) ≤ gone → (i e : ℕ) (d : K) → i < length keys → get_or (marks_of p before gone keys) i e < gone → p (get_or keys i d) ≡ true
  marked_stays before gone [] fits i e d l below = absurd (omega (arith, l))
  marked_stays before gone (k ∷ keys) fits i e d l below = by (p k) refl fits i l below (marked_stays (before + 1) gone keys) (marked_stays before gone keys)
    where
      by : (b : Bool) → p k ≡ b → before + length (cond b (k ∷ filter p keys) (filter p keys)) ≤ gone → (i : ℕ) → i < length (k ∷ keys)
          → get_or (cond b (before ∷ marks_of p (before + 1) gone keys) (gone ∷ marks_of p before gone keys)) i e < gone
          → (before + 1 + length (filter p keys) ≤ gone → (i e : ℕ) (d : K) → i < length keys → get_or (marks_of p (before + 1) gone keys) i e < gone → p (get_or keys i d) ≡ true)
          → (before + length (filter p keys) ≤ gone → (i e : ℕ) (d : K) → i < length keys → get_or (marks_of p before gone keys) i e < gone → p (get_or keys i d) ≡ true)
          → p (get_or (k ∷ keys) i d) ≡ true
      by true is fits zero l below here there = is
      by true is fits (suc i) l below here there = here (omega (arith, fits)) i e d (omega (arith, l)) below
      by false is fits zero l below here there = absurd (omega (arith, below))
      by false is fits (suc i) l below here there = there fits i e d (omega (arith, l)) below

  -- each place among those that stay is the mark of a key
  pub marked_each : (before gone : ℕ) (keys : List K) (j : ℕ) → j < length (filter p keys) → (i : ℕ) × (i < length keys) × (get_or (marks_of p before gone keys) i 0 ≡ before + j)
  marked_each before gone [] j l = absurd (omega (arith, l))
  marked_each before gone (k ∷ keys) j l = by (p k) j l (marked_each (before + 1) gone keys) (marked_each before gone keys)
    where
      by : (b : Bool) (j : ℕ) → j < length (cond b (k ∷ filter p keys) (filter p keys))
          → ((j : ℕ) → j < length (filter p keys) → (i : ℕ) × (i < length keys) × (get_or (marks_of p (before + 1) gone keys) i 0 ≡ before + 1 + j))
          → ((j : ℕ) → j < length (filter p keys) → (i : ℕ) × (i < length keys) × (get_or (marks_of p before gone keys) i 0 ≡ before + j))
          → (i : ℕ) × (i < length (k ∷ keys)) × (get_or (cond b (before ∷ marks_of p (before + 1) gone keys) (gone ∷ marks_of p before gone keys)) i 0 ≡ before + j)
      by true zero l here there = (0, omega arith, omega arith)
      by true (suc j) l here there = let m = here j (omega (arith, l)) in (suc m.0, omega (arith, m.1), m.2 ∙ omega arith)
      by false j l here there = let m = there j l in (suc m.0, omega (arith, m.1), m.2)

  pub marks-length : (before gone : ℕ) (keys : List K) → length (marks_of p before gone keys) ≡ length keys
  marks-length before gone [] = refl
  marks-length before gone (k ∷ keys) = by (p k) (marks-length (before + 1) gone keys) (marks-length before gone keys)
    where
      by : (b : Bool) → length (marks_of p (before + 1) gone keys) ≡ length keys → length (marks_of p before gone keys) ≡ length keys → length (cond b (before ∷ marks_of p (before + 1) gone keys) (gone ∷ marks_of p before gone keys)) ≡ suc (length keys)
      by true here there = ap suc here
      by false here there = ap suc there

pub filter-shorter : {X : Type 0} (p : X → Bool) (xs : List X) → length (filter p xs) ≤ length xs
filter-shorter p [] = omega arith
filter-shorter p (x ∷ xs) = by (p x) (filter-shorter p xs)
  where
    by : (b : Bool) → length (filter p xs) ≤ length xs → length (cond b (x ∷ filter p xs) (filter p xs)) ≤ suc (length xs)
    by true h = omega (arith, h)
    by false h = omega (arith, h)
