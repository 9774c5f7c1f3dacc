-- Rows that stand for values, one by one, and the first that does not.
use Rattle.std.proofs.Common.{◌≡◌, ◌+◌, ◌<◌, ◌∙◌, ℕ, zero, suc, inl, inr, Bool, true, List, [], ◌∷◌, map, take, length, get_or, refl, sym, ap, subst, arith, IsPermutation, Ordering, Less}
use Rattle.std.specs.List.{AllByRecursion, list_any}
use Rattle.std.specs.List.Sorted.{IsStrictlySortedBy}
use Rattle.std.proofs.lemmas.List.{get_or_default}
use Rattle.std.proofs.lemmas.List.Sorted.{IsPermutation-sym}
use Rattle.std.proofs.lemmas.Map.Keys.{Less-from_sorted}
use Rattle.sqlite_value.specs.Order.{Row}
use Rattle.sqlite_rules.specs.Lists.{Has}
use Rattle.sqlite_rules.proofs.ListLemmas.{all_from, all_has, has_got, some_from, some_has}
use Rattle.jm_decoding.specs.Tables.{IsFirstDamaged, StandFor}
use Rattle.jm_loading.specs.Unfit.{AreFit, IsFirstUnfit}
use Rattle.jm_loading.proofs.Unfit.{fit_next}
use Rattle.jm_load.proofs.Finding.{has_moved}

-- ---- rows that are shown

has_mapped : {X Y : Type 0} (f : X → Y) (xs : List X) (y : Y) → Has (map f xs) y → (x : X) × Has xs x × (y ≡ f x)
has_mapped f [] y h = absurd h
has_mapped f (x ∷ xs) y (inl same) = (x, inl refl, same)
has_mapped f (x ∷ xs) y (inr later) = let found = has_mapped f xs y later in (found.0, inr found.1, found.2)

mapped_has : {X Y : Type 0} (f : X → Y) (xs : List X) (x : X) → Has xs x → Has (map f xs) (f x)
mapped_has f [] x h = absurd h
mapped_has f (z ∷ xs) x (inl same) = inl (ap f same)
mapped_has f (z ∷ xs) x (inr later) = inr (mapped_has f xs x later)

module _ (f : Row → Row) (all rows : List Row) (same : IsPermutation (map f all) rows) where
  -- a row that is shown is one of the table
  pub row_behind : (r : Row) → Has rows r → (q : Row) × Has all q × (r ≡ f q)
  row_behind r h = has_mapped f all r (has_moved rows (map f all) r (IsPermutation-sym (map f all) rows same) h)

  -- and one of the table is shown
  pub row_shown : (q : Row) → Has all q → Has rows (f q)
  row_shown q h = has_moved (map f all) rows (f q) same (mapped_has f all q h)

  -- what holds of all rows of the table holds of all that are shown, and the other way round
  pub all_shown : (P : Row → Type 0) → ((q : Row) → P q → P (f q)) → AllByRecursion P all → AllByRecursion P rows
  all_shown P to h = all_from P rows (λ r there. let is = row_behind r there in subst P (sym is.2) (to is.0 (all_has P all is.0 h is.1)))

  pub all_behind : (P : Row → Type 0) → ((q : Row) → P (f q) → P q) → AllByRecursion P rows → AllByRecursion P all
  all_behind P back h = all_from P all (λ q there. back q (all_has P rows (f q) h (row_shown q there)))

-- where all are so, none is the first of which it is not so
pub none_damaged : (P : Row → Type 0) (rows : List Row) (at : ℕ) → AllByRecursion P rows → IsFirstDamaged P rows at → ⊥
none_damaged P rows at all first = first.damaged (all_has P rows first.row all (has_got rows at first.row first.row_is))

-- what holds of all rows, in other words
pub all_as : (P Q : Row → Type 0) → ((r : Row) → P r → Q r) → (rows : List Row) → AllByRecursion P rows → AllByRecursion Q rows
all_as P Q to [] h = tt
all_as P Q to (r ∷ rows) h = (to r h.0, all_as P Q to rows h.1)

pub first_as : (P Q : Row → Type 0) (rows : List Row) (at : ℕ) → ((r : Row) → P r → Q r) → ((r : Row) → Has rows r → Q r → P r) → IsFirstDamaged P rows at → IsFirstDamaged Q rows at
first_as P Q rows at to from first = record {
  row = first.row;
  row_is = first.row_is;
  damaged = λ q. first.damaged (from first.row (has_got rows at first.row first.row_is) q);
  before = all_as P Q to (take at rows) first.before;
}

-- one that is damaged, where those before it are so, is the first
pub first_behind : (P Q : Row → Type 0) (rows : List Row) (at : ℕ) → ((r : Row) → Has rows r → Q r → P r) → AllByRecursion Q (take at rows) → IsFirstDamaged P rows at → IsFirstDamaged Q rows at
first_behind P Q rows at from before first = record {
  row = first.row;
  row_is = first.row_is;
  damaged = λ q. first.damaged (from first.row (has_got rows at first.row first.row_is) q);
  before = before;
}

-- the first of the rows in front is the first of all
pub first_in_front : (P : Row → Type 0) (rows : List Row) (n at : ℕ) → IsFirstDamaged P (take n rows) at → IsFirstDamaged P rows at
first_in_front P [] zero at first = first
first_in_front P [] (suc n) at first = first
first_in_front P (r ∷ rows) zero at first = absurd (let is = first.row_is in cc)
first_in_front P (r ∷ rows) (suc n) zero first = record { row = first.row; row_is = first.row_is; damaged = first.damaged; before = tt }
first_in_front P (r ∷ rows) (suc n) (suc at) first =
    let later = first_in_front P rows n at (record { row = first.row; row_is = first.row_is; damaged = first.damaged; before = first.before.1 }) in
    record { row = later.row; row_is = later.row_is; damaged = later.damaged; before = (first.before.0, later.before) }

-- ---- rows that rise

all_front : {X : Type 0} (P : X → Type 0) (xs : List X) (n : ℕ) → AllByRecursion P xs → AllByRecursion P (take n xs)
all_front P [] zero h = tt
all_front P [] (suc n) h = tt
all_front P (x ∷ xs) zero h = tt
all_front P (x ∷ xs) (suc n) h = (h.0, all_front P xs n h.1)

pub rise_front : {X : Type 0} (cmp : X → X → Ordering) (xs : List X) (n : ℕ) → IsStrictlySortedBy cmp xs → IsStrictlySortedBy cmp (take n xs)
unfolding IsStrictlySortedBy
rise_front cmp [] zero h = tt
rise_front cmp [] (suc n) h = tt
rise_front cmp (x ∷ xs) zero h = tt
rise_front cmp (x ∷ xs) (suc n) h = (all_front (λ y. cmp x y ≡ Less) xs n h.0, rise_front cmp xs n h.1)

-- of rows that rise, a row does not fit because it may not stand
pub never_stands : {X : Type 0} (cmp : X → X → Ordering) (May : X → Type 0) (xs : List X) (at : ℕ) → IsStrictlySortedBy cmp xs → IsFirstUnfit cmp May xs at → (d : X) → May (get_or xs at d) → ⊥
never_stands cmp May xs at rise first d stands =
    first.unfit (fit_next cmp May xs at first.before
    (λ k e same. Less-from_sorted cmp xs k at e rise (omega (arith, same)) first.within, λ e. subst May (get_or_default xs at d e first.within) stands))

-- ---- rows that stand for values

module _ {X : Type 0} (S : Row → X → Type 0) where
  -- a row stands for one of the values
  pub value_of : (rows : List Row) (xs : List X) (r : Row) → StandFor S rows xs → Has rows r → (x : X) × Has xs x × S r x
  value_of [] [] r h there = absurd there
  value_of [] (x ∷ xs) r h there = absurd h
  value_of (s ∷ rows) [] r h there = absurd h
  value_of (s ∷ rows) (x ∷ xs) r h (inl same) = (x, inl refl, subst (λ (q : Row). S q x) (sym same) h.0)
  value_of (s ∷ rows) (x ∷ xs) r h (inr later) = let found = value_of rows xs r h.1 later in (found.0, inr found.1, found.2)

  -- for a value there stands a row
  pub row_for : (rows : List Row) (xs : List X) (x : X) → StandFor S rows xs → Has xs x → (r : Row) × Has rows r × S r x
  row_for [] [] x h there = absurd there
  row_for [] (y ∷ xs) x h there = absurd h
  row_for (r ∷ rows) [] x h there = absurd h
  row_for (r ∷ rows) (y ∷ xs) x h (inl same) = (r, inl refl, subst (λ (z : X). S r z) (sym same) h.0)
  row_for (r ∷ rows) (y ∷ xs) x h (inr later) = let found = row_for rows xs x h.1 later in (found.0, inr found.1, found.2)

  -- what holds of each row that stands for a value
  pub all_stand : (P : Row → Type 0) → ((r : Row) (x : X) → S r x → P r) → (rows : List Row) (xs : List X) → StandFor S rows xs → AllByRecursion P rows
  all_stand P to [] [] h = tt
  all_stand P to [] (x ∷ xs) h = absurd h
  all_stand P to (r ∷ rows) [] h = absurd h
  all_stand P to (r ∷ rows) (x ∷ xs) h = (to r x h.0, all_stand P to rows xs h.1)

  -- as the rows rise, so do the values
  above : (C : Row → Row → Ordering) (cmp : X → X → Ordering) → ((r s : Row) (x y : X) → S r x → S s y → C r s ≡ Less → cmp x y ≡ Less) → (r : Row) (x : X) → S r x → (rows : List Row) (xs : List X) → StandFor S rows xs
      → AllByRecursion (λ s. C r s ≡ Less) rows → AllByRecursion (λ y. cmp x y ≡ Less) xs
  above C cmp rule r x is [] [] h below = tt
  above C cmp rule r x is [] (y ∷ xs) h below = absurd h
  above C cmp rule r x is (s ∷ rows) [] h below = absurd h
  above C cmp rule r x is (s ∷ rows) (y ∷ xs) h below = (rule r s x y is h.0 below.0, above C cmp rule r x is rows xs h.1 below.1)

  pub values_rise : (C : Row → Row → Ordering) (cmp : X → X → Ordering) → ((r s : Row) (x y : X) → S r x → S s y → C r s ≡ Less → cmp x y ≡ Less) → (rows : List Row) (xs : List X) → StandFor S rows xs → IsStrictlySortedBy C rows → IsStrictlySortedBy cmp xs
  unfolding IsStrictlySortedBy
  values_rise C cmp rule [] [] h rise = tt
  values_rise C cmp rule [] (x ∷ xs) h rise = absurd h
  values_rise C cmp rule (r ∷ rows) [] h rise = absurd h
  values_rise C cmp rule (r ∷ rows) (x ∷ xs) h rise = (above C cmp rule r x h.0 rows xs h.1 rise.0, values_rise C cmp rule rows xs h.1 rise.1)

  -- what holds of each value that a row stands for
  pub may_stand : (May : X → Type 0) → ((r : Row) (x : X) → S r x → May x) → (rows : List Row) (xs : List X) → StandFor S rows xs → (k : ℕ) (d : X) → k < length xs → May (get_or xs k d)
  may_stand May to [] [] h k d l = absurd (omega (arith, l))
  may_stand May to [] (x ∷ xs) h k d l = absurd h
  may_stand May to (r ∷ rows) [] h k d l = absurd h
  may_stand May to (r ∷ rows) (x ∷ xs) h zero d l = to r x h.0
  may_stand May to (r ∷ rows) (x ∷ xs) h (suc k) d l = may_stand May to rows xs h.1 k d (omega (arith, l))

  -- values that rise, and may all stand, fit
  pub all_fit : (cmp : X → X → Ordering) (May : X → Type 0) → ((r : Row) (x : X) → S r x → May x) → (rows : List Row) (xs : List X) → StandFor S rows xs → IsStrictlySortedBy cmp xs → AreFit cmp May xs (length xs)
  all_fit cmp May to rows xs h rise = record { rise = λ k d l. Less-from_sorted cmp xs k (k + 1) d rise (omega arith) l; may = may_stand May to rows xs h }

  module _ (P : Row → Type 0) (May : X → Type 0) (to : (r : Row) (x : X) → S r x → May x → P r) (from : (r : Row) (x : X) → S r x → P r → May x) where
    -- where all values may stand, all rows are so
    pub all_may : (rows : List Row) (xs : List X) → StandFor S rows xs → ((k : ℕ) (d : X) → k < length xs → May (get_or xs k d)) → AllByRecursion P rows
    all_may [] [] h may = tt
    all_may [] (x ∷ xs) h may = absurd h
    all_may (r ∷ rows) [] h may = absurd h
    all_may (r ∷ rows) (x ∷ xs) h may = (to r x h.0 (may zero x (omega arith)), all_may rows xs h.1 (λ k d l. may (suc k) d (omega (arith, l))))

    -- the first value that may not stand is that of the first row that is not so
    pub first_may : (rows : List Row) (xs : List X) (at : ℕ) → StandFor S rows xs → at < length xs → ((k : ℕ) (d : X) → k < at → May (get_or xs k d)) → ((d : X) → May (get_or xs at d) → ⊥) → IsFirstDamaged P rows at
    first_may [] [] at h within before never = absurd (omega (arith, within))
    first_may [] (x ∷ xs) at h within before never = absurd h
    first_may (r ∷ rows) [] at h within before never = absurd h
    first_may (r ∷ rows) (x ∷ xs) zero h within before never = record { row = r; row_is = refl; damaged = λ p. never x (from r x h.0 p); before = tt }
    first_may (r ∷ rows) (x ∷ xs) (suc at) h within before never =
        let later = first_may rows xs at h.1 (omega (arith, within)) (λ k d l. before (suc k) d (omega (arith, l))) never in
        record { row = later.row; row_is = later.row_is; damaged = later.damaged; before = (to r x h.0 (before zero x (omega arith)), later.before) }

    -- of values that rise, the first that does not fit
    pub first_unfit_row : (cmp : X → X → Ordering) (rows : List Row) (xs : List X) (at : ℕ) → StandFor S rows xs → IsStrictlySortedBy cmp xs → IsFirstUnfit cmp May xs at → IsFirstDamaged P rows at
    first_unfit_row cmp rows xs at h rise first = first_may rows xs at h first.within first.before.may (never_stands cmp May xs at rise first)

-- some row of the table passes where some value does that a shown row stands for
module _ {X : Type 0} (S : Row → X → Type 0) (f : Row → Row) (all rows : List Row) (xs : List X) (same : IsPermutation (map f all) rows) (stand : StandFor S rows xs) (p : Row → Bool) (q : X → Bool)
    (tests : (r : Row) (x : X) → S r x → p r ≡ q x) (shows : (r : Row) → p (f r) ≡ p r) where
  pub any_behind : list_any q xs ≡ true → list_any p all ≡ true
  any_behind h =
      let value = some_has q xs h in
      let row = row_for S rows xs value.0 stand value.1 in
      let behind = row_behind f all rows same row.0 row.1 in
      some_from p all behind.0 behind.1 (sym (shows behind.0) ∙ ap p (sym behind.2) ∙ tests row.0 value.0 row.2 ∙ value.2)

  pub any_shown : list_any p all ≡ true → list_any q xs ≡ true
  any_shown h =
      let row = some_has p all h in
      let value = value_of S rows xs (f row.0) stand (row_shown f all rows same row.0 row.1) in
      some_from q xs value.0 value.1 (sym (tests (f row.0) value.0 value.2) ∙ shows row.0 ∙ row.2)
