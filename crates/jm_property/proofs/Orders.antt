-- Facts on the order of the names of a table.
use Rattle.std.proofs.Common.{◌≡◌, ◌+◌, ◌-◌, ◌<◌, ◌≤◌, ◌⊎◌, inl, inr, ℕ, Bool, true, false, List, [], ◌∷◌, ◌++◌, length, get_or, arith, refl, sym, ◌∙◌, ap, subst}
use Rattle.std.specs.Cmp.Lexicographic.{slice_cmp, bytes_decides}
use Rattle.std.specs.List.{insert}
use Rattle.std.specs.Ordering.{is_lt, nat_cmp, ordering_reverse}
use Rattle.std.specs.declared.cmp.Ordering.{Ordering}
use Rattle.std.specs.declared.cmp.Ordering.TheVariants.{Less, Equal, Greater}
use Rattle.std.specs.Str.{bytes_eq}
use Rattle.std.proofs.lemmas.Cmp.{nat_list_cmp_total, tied_itself}
use Rattle.std.proofs.lemmas.Map.Lookups.{exact_bytes}
use Rattle.std.proofs.lemmas.List.{length_push, get_or_append_left, get_or_push}
use Rattle.std.proofs.lemmas.List.Edits.{length-insert, get_or-insert_below, get_or-insert_at, get_or-insert_above}
use Rattle.jm_property.specs.Order.{IsOrder, is_before, name_at}

abbrev cmp : List ℕ → List ℕ → Ordering
cmp a b = slice_cmp nat_cmp a b

-- what comes no later than a text comes before all that this comes before
pub before_under : (a b c : List ℕ) → is_before b a ≡ false → is_before b c ≡ true → is_before a c ≡ true
before_under a b c up below = by (cmp b a) refl (cmp b c) refl
  where
    by : (o : Ordering) → cmp b a ≡ o → (p : Ordering) → cmp b c ≡ p → is_before a c ≡ true
    by Less e p f = absurd (let x : is_lt (cmp b a) ≡ true = ap is_lt e in cc)
    by Equal e Less f = ap is_lt (sym (nat_list_cmp_total.congr b a c e) ∙ f)
    by Greater e Less f = ap is_lt (nat_list_cmp_total.trans a b c (nat_list_cmp_total.antisymm a b ∙ ap ordering_reverse e) f)
    by Equal e Equal f = absurd (let x : is_lt (cmp b c) ≡ false = ap is_lt f in cc)
    by Equal e Greater f = absurd (let x : is_lt (cmp b c) ≡ false = ap is_lt f in cc)
    by Greater e Equal f = absurd (let x : is_lt (cmp b c) ≡ false = ap is_lt f in cc)
    by Greater e Greater f = absurd (let x : is_lt (cmp b c) ≡ false = ap is_lt f in cc)

pub not_both : (a b : List ℕ) → is_before a b ≡ true → is_before b a ≡ false
not_both a b below = by (cmp b a) refl
  where
    by : (o : Ordering) → cmp b a ≡ o → is_before b a ≡ false
    by Less e = absurd (let x : is_lt (cmp a b) ≡ false = ap is_lt (nat_list_cmp_total.antisymm a b ∙ ap ordering_reverse e) in cc)
    by Equal e = ap is_lt e
    by Greater e = ap is_lt e

pub not_itself : (a : List ℕ) → is_before a a ≡ false
not_itself a = ap is_lt (tied_itself nat_list_cmp_total a)

abbrev pub name_in : List (List ℕ) → List ℕ → ℕ → List ℕ
name_in names order k = name_at names (get_or order k 0)

sides : (k at : ℕ) → (k < at) ⊎ ((at ≡ k) ⊎ (at < k))
sides k at = grind arith

-- ---- one more name

module _ (names : List (List ℕ)) (order : List ℕ) (it : IsOrder names order) (name : List ℕ) (at : ℕ) (within : at ≤ length order)
    (before : (k : ℕ) → k < at → is_before (name_in names order k) name ≡ true) (behind : (k : ℕ) → at ≤ k → k < length order → is_before (name_in names order k) name ≡ false) where
  abbrev pub more : List (List ℕ)
  more = names ++ name ∷ []

  abbrev pub longer : List ℕ
  longer = insert order at (length names)

  size : length longer ≡ length order + 1
  size = length-insert order at (length names) within

  kept : (p : ℕ) → p < length names → name_at more p ≡ name_at names p
  kept p l = get_or_append_left names (name ∷ []) [] p l

  new : name_at more (length names) ≡ name
  new = get_or_push names name [] (length names) refl

  low : (k : ℕ) → k < at → name_in more longer k ≡ name_in names order k
  low k l = ap (name_at more) (get_or-insert_below order at (length names) 0 k l within) ∙ kept (get_or order k 0) (it.within k (omega (arith, l, within)))

  here : name_in more longer at ≡ name
  here = ap (name_at more) (get_or-insert_at order at (length names) 0 within) ∙ new

  high : (k : ℕ) → at ≤ k → k < length order → name_in more longer (k + 1) ≡ name_in names order k
  high k l w = ap (name_at more) (get_or-insert_above order at (length names) 0 k l within) ∙ kept (get_or order k 0) (it.within k w)

  -- what holds of the places in turn: before the new one, at it, and behind it
  slot : (P : ℕ → Type 0) → ((k : ℕ) → k < at → P k) → P at → ((k : ℕ) → at ≤ k → k < length order → P (k + 1)) → (k : ℕ) → k < length longer → P k
  slot P first middle last k l = elim (sides k at) [
    | inl below ↦ first k below
    | inr (inl same) ↦ subst P same middle
    | inr (inr above) ↦ (
        let next : (k - 1) + 1 ≡ k = omega (arith, above) in
        subst P next (last (k - 1) (omega (arith, above)) (omega (arith, above, l, size))))
  ]

  apart : (k j : ℕ) (a b : List ℕ) → name_in more longer k ≡ a → name_in more longer j ≡ b → is_before a b ≡ false → is_before (name_in more longer k) (name_in more longer j) ≡ false
  apart k j a b e f h = (λ i. is_before (e i) (f i)) ∙ h

  longer_names : length more ≡ length names + 1
  longer_names = length_push names name

  is_within : (k : ℕ) → k < length longer → get_or longer k 0 < length more
  is_within = slot (λ k. get_or longer k 0 < length more)
      (λ k l. rw (get_or-insert_below order at (length names) 0 k l within) (let w = it.within k (omega (arith, l, within)) in omega (arith, w, longer_names)))
      (rw (get_or-insert_at order at (length names) 0 within) (omega (arith, longer_names)))
      (λ k l w. rw (get_or-insert_above order at (length names) 0 k l within) (let v = it.within k w in omega (arith, v, longer_names)))

  rises : (k : ℕ) → k < length longer → (j : ℕ) → j < k → is_before (name_in more longer k) (name_in more longer j) ≡ false
  rises = slot (λ k. (j : ℕ) → j < k → is_before (name_in more longer k) (name_in more longer j) ≡ false)
      (λ k l j m. apart k j _ _ (low k l) (low j (omega (arith, l, m))) (it.rising j k m (omega (arith, l, within))))
      (λ j m. apart at j _ _ here (low j m) (not_both (name_in names order j) name (before j m)))
      (λ k l w j m. slot (λ j. j < k + 1 → is_before (name_in more longer (k + 1)) (name_in more longer j) ≡ false)
      (λ j n m. apart (k + 1) j _ _ (high k l w) (low j n) (it.rising j k (omega (arith, n, l)) w))
      (λ m. apart (k + 1) at _ _ (high k l w) here (behind k l w))
      (λ j n v m. apart (k + 1) (j + 1) _ _ (high k l w) (high j n v) (it.rising j k (omega (arith, m)) w))
      j (omega (arith, m, w, size)) m)

  is_whole : (place : ℕ) → place < length more → (k : ℕ) × (k < length longer) × (get_or longer k 0 ≡ place)
  is_whole place l = elim (sides place (length names)) [
    | inl old ↦ (
        let k = it.whole place old in
        elim (sides k.0 at) [
          | inl below ↦ (k.0, omega (arith, k.1, size), get_or-insert_below order at (length names) 0 k.0 below within ∙ k.2)
          | inr (inl same) ↦ (k.0 + 1, omega (arith, k.1, size), get_or-insert_above order at (length names) 0 k.0 (omega (arith, same)) within ∙ k.2)
          | inr (inr above) ↦ (k.0 + 1, omega (arith, k.1, size), get_or-insert_above order at (length names) 0 k.0 (omega (arith, above)) within ∙ k.2)
        ])
    | inr (inl same) ↦ (at, omega (arith, within, size), get_or-insert_at order at (length names) 0 within ∙ same)
    | inr (inr past) ↦ absurd (omega (arith, l, past, longer_names))
  ]

  -- the order of the names and one more, whose place stands where it belongs
  pub IsOrder-insert : IsOrder more longer
  IsOrder-insert = record {
    within = is_within;
    rising = λ j k m l. rises k l j m;
    whole = is_whole;
  }

pub IsOrder-none : IsOrder [] []
IsOrder-none = record {
  within = λ k l. absurd (omega (arith, l));
  rising = λ j k m l. absurd (omega (arith, l));
  whole = λ place l. absurd (omega (arith, l));
}

-- ---- a name that is looked for

neither : (a b : List ℕ) → is_before a b ≡ false → is_before b a ≡ false → a ≡ b
neither a b h k = by (cmp a b) refl
  where
    by : (o : Ordering) → cmp a b ≡ o → a ≡ b
    by Less e = absurd (let x : is_lt (cmp a b) ≡ true = ap is_lt e in cc)
    by Equal e = exact_bytes a b e
    by Greater e = absurd (let x : is_lt (cmp b a) ≡ true = ap is_lt (nat_list_cmp_total.antisymm b a ∙ ap ordering_reverse e) in cc)

module _ (names : List (List ℕ)) (order : List ℕ) (it : IsOrder names order) (name : List ℕ) (at : ℕ)
    (before : (k : ℕ) → k < at → is_before (name_in names order k) name ≡ true) (behind : (k : ℕ) → at ≤ k → k < length order → is_before (name_in names order k) name ≡ false) where
  -- a name that stands somewhere stands at the place that was found
  same_there : (place : ℕ) → place < length names → name ≡ name_at names place → (at < length order) × (name ≡ name_in names order at)
  same_there place l e =
      let k = it.whole place l in
      let is : name ≡ name_in names order k.0 = e ∙ ap (name_at names) (sym k.2) in
      elim (sides k.0 at) [
        | inl below ↦ absurd (
            let yes_ : is_before name name ≡ true = ap (λ n. is_before n name) is ∙ before k.0 below in
            let no_ = not_itself name in
            cc)
        | inr (inl same) ↦ (subst (λ n. n < length order) (sym same) k.1, subst (λ n. name ≡ name_in names order n) (sym same) is)
        | inr (inr above) ↦ (
            let l : at < length order = omega (arith, above, k.1) in
            (l, neither name (name_in names order at) (ap (λ n. is_before n (name_in names order at)) is ∙ it.rising at k.0 above k.1) (behind at (omega arith) l)))
      ]

  pub none_behind : at ≡ length order → (place : ℕ) → place < length names → bytes_eq name (name_at names place) ≡ false
  none_behind end place l = by (bytes_eq name (name_at names place)) refl
    where
      by : (b : Bool) → bytes_eq name (name_at names place) ≡ b → bytes_eq name (name_at names place) ≡ false
      by true e = absurd (let there = same_there place l ((bytes_decides name (name_at names place)).0 e) in omega (arith, there.0, end))
      by false e = e

  pub none_other : bytes_eq (name_in names order at) name ≡ false → (place : ℕ) → place < length names → bytes_eq name (name_at names place) ≡ false
  none_other other place l = by (bytes_eq name (name_at names place)) refl
    where
      by : (b : Bool) → bytes_eq name (name_at names place) ≡ b → bytes_eq name (name_at names place) ≡ false
      by true e = absurd (
          let there = same_there place l ((bytes_decides name (name_at names place)).0 e) in
          let same = (bytes_decides (name_in names order at) name).1 (sym there.1) in
          cc)
      by false e = e

-- ---- halves of an order

module _ (names : List (List ℕ)) (order : List ℕ) (it : IsOrder names order) (name : List ℕ) (middle : ℕ) (within : middle < length order) where
  pub low_half : is_before (name_in names order middle) name ≡ true → (k : ℕ) → k < middle + 1 → is_before (name_in names order k) name ≡ true
  low_half first k l = elim (sides k middle) [
    | inl below ↦ before_under (name_in names order k) (name_in names order middle) name (it.rising k middle below within) first
    | inr (inl same) ↦ subst (λ n. is_before (name_in names order n) name ≡ true) same first
    | inr (inr above) ↦ absurd (omega (arith, l, above))
  ]

  pub high_half : is_before (name_in names order middle) name ≡ false → (k : ℕ) → middle ≤ k → k < length order → is_before (name_in names order k) name ≡ false
  high_half later k l w = elim (sides k middle) [
    | inl below ↦ absurd (omega (arith, l, below))
    | inr (inl same) ↦ subst (λ n. is_before (name_in names order n) name ≡ false) same later
    | inr (inr above) ↦ by (is_before (name_in names order k) name) refl above
  ]
    where
      by : (b : Bool) → is_before (name_in names order k) name ≡ b → middle < k → is_before (name_in names order k) name ≡ false
      by true e above = absurd (let first = before_under (name_in names order middle) (name_in names order k) name (it.rising middle k above w) e in cc)
      by false e above = e
