-- Facts on the items in slots, their indexes, and the gaps between them, for this crate and for those that hold slots.
use Rattle.std.proofs.Common.{◌≡◌, ◌≢◌, ℕ, ◌+◌, ◌<◌, ◌≤◌, ◌⊎◌, inl, inr, true, List, [], ◌∷◌, ◌++◌, length, get_or, map, set, take, Option, Some, None, arith, refl, ◌∙◌, ap, suc, zero}
use Rattle.std.specs.Prelude.{IsOk, IsSome, is_ok, is_some}
use Rattle.std.specs.declared.result.Result.{Result}
use Rattle.std.specs.declared.result.Result.TheVariants.{Ok, Err}
use Rattle.std.specs.List.{filter, insert, remove, slice_get}
use Rattle.std.proofs.lemmas.List.{get_or-set_other, get_or_append_left, get_or_push, take-append-le, take_all}
use Rattle.std.proofs.lemmas.List.Elements.{filter_map-append}
use Rattle.std.proofs.lemmas.Option.{slice_get_within}
use Rattle.jm_slots.specs.Items.{gaps_from, item_in, items, items_before}

pub sides : (s t : ℕ) → (s < t) ⊎ ((s ≡ t) ⊎ (t < s))
sides s t = grind arith

pub ok_is : {T E : Type 0} (r : Result T E) → IsOk r → is_ok r ≡ true
ok_is (Ok x) h = refl
ok_is (Err e) h = cc

module _ {A : Type 0} where
  -- ---- items and gaps

  -- each slot has an item or is a gap
  pub items-gaps : (n : ℕ) (xs : List (Option A)) → length (items xs) + length (gaps_from n xs) ≡ length xs
  items-gaps n [] = omega arith
  items-gaps n (None ∷ xs) = omega (arith, items-gaps (n + 1) xs)
  items-gaps n (Some x ∷ xs) = omega (arith, items-gaps (n + 1) xs)

  -- there are no more items than slots
  pub items-shorter : (xs : List (Option A)) → length (items xs) ≤ length xs
  items-shorter xs = omega (arith, items-gaps 0 xs)

  pub items-push : (xs : List (Option A)) (x : A) → items (xs ++ Some x ∷ []) ≡ items xs ++ x ∷ []
  items-push xs x = filter_map-append (λ o. o) xs (Some x ∷ [])

  pub gaps-push : (n : ℕ) (xs : List (Option A)) (x : A) → gaps_from n (xs ++ Some x ∷ []) ≡ gaps_from n xs
  gaps-push n [] x = refl
  gaps-push n (None ∷ xs) x = ap (λ l. n ∷ l) (gaps-push (n + 1) xs x)
  gaps-push n (Some y ∷ xs) x = gaps-push (n + 1) xs x

  gap_from : (n : ℕ) (xs : List (Option A)) (k : ℕ) → k < length (gaps_from n xs) → n ≤ get_or (gaps_from n xs) k 0
  gap_from n [] k l = absurd (omega (arith, l))
  gap_from n (None ∷ xs) zero l = omega arith
  gap_from n (None ∷ xs) (suc k) l = omega (arith, gap_from (n + 1) xs k (omega (arith, l)))
  gap_from n (Some x ∷ xs) k l = omega (arith, gap_from (n + 1) xs k l)

  pub gaps_rise : (n : ℕ) (xs : List (Option A)) (k : ℕ) → k + 1 < length (gaps_from n xs) → get_or (gaps_from n xs) k 0 < get_or (gaps_from n xs) (k + 1) 0
  gaps_rise n [] k l = absurd (omega (arith, l))
  gaps_rise n (None ∷ xs) zero l = omega (arith, gap_from (n + 1) xs 0 (omega (arith, l)))
  gaps_rise n (None ∷ xs) (suc k) l = let one : suc k + 1 ≡ suc (k + 1) = omega arith in rw one (gaps_rise (n + 1) xs k (omega (arith, l)))
  gaps_rise n (Some x ∷ xs) k l = gaps_rise (n + 1) xs k l

  -- no more gaps stand before a slot than there are
  pub gaps_fewer : (n : ℕ) (xs : List (Option A)) (s : ℕ) → length (gaps_from n (take s xs)) ≤ length (gaps_from n xs)
  gaps_fewer n xs zero = omega arith
  gaps_fewer n [] (suc s) = omega arith
  gaps_fewer n (None ∷ xs) (suc s) = omega (arith, gaps_fewer (n + 1) xs s)
  gaps_fewer n (Some x ∷ xs) (suc s) = gaps_fewer (n + 1) xs s

  -- the gaps before a slot are below it
  pub gap_below : (n : ℕ) (xs : List (Option A)) (s k : ℕ) → k < length (gaps_from n (take s xs)) → get_or (gaps_from n xs) k 0 < n + s
  gap_below n xs zero k l = absurd (omega (arith, l))
  gap_below n [] (suc s) k l = absurd (omega (arith, l))
  gap_below n (None ∷ xs) (suc s) zero l = omega arith
  gap_below n (None ∷ xs) (suc s) (suc k) l = omega (arith, gap_below (n + 1) xs s k (omega (arith, l)))
  gap_below n (Some x ∷ xs) (suc s) k l = omega (arith, gap_below (n + 1) xs s k l)

  -- and no others are
  pub gap_behind : (n : ℕ) (xs : List (Option A)) (s k : ℕ) → length (gaps_from n (take s xs)) ≤ k → k < length (gaps_from n xs) → n + s ≤ get_or (gaps_from n xs) k 0
  gap_behind n xs zero k l m = omega (arith, gap_from n xs k m)
  gap_behind n [] (suc s) k l m = absurd (omega (arith, m))
  gap_behind n (None ∷ xs) (suc s) zero l m = absurd (omega (arith, l))
  gap_behind n (None ∷ xs) (suc s) (suc k) l m = omega (arith, gap_behind (n + 1) xs s k (omega (arith, l)) (omega (arith, m)))
  gap_behind n (Some x ∷ xs) (suc s) k l m = omega (arith, gap_behind (n + 1) xs s k l m)

  -- a slot that is empty is the gap behind those before it
  pub gap_there : (n : ℕ) (xs : List (Option A)) (s : ℕ) → s < length xs → item_in xs s ≡ None → (length (gaps_from n (take s xs)) < length (gaps_from n xs)) × (get_or (gaps_from n xs) (length (gaps_from n (take s xs))) 0 ≡ n + s)
  gap_there n [] s l e = absurd (omega (arith, l))
  gap_there n (None ∷ xs) zero l e = (omega arith, omega arith)
  gap_there n (Some x ∷ xs) zero l e = cc
  gap_there n (None ∷ xs) (suc s) l e = let there = gap_there (n + 1) xs s (omega (arith, l)) e in (omega (arith, there.0), there.1 ∙ omega arith)
  gap_there n (Some x ∷ xs) (suc s) l e = let there = gap_there (n + 1) xs s (omega (arith, l)) e in (there.0, there.1 ∙ omega arith)

  -- ---- an item

  -- the item in a slot stands at its index
  pub item_at : (xs : List (Option A)) (s : ℕ) (x : A) → item_in xs s ≡ Some x → slice_get (items xs) (items_before xs s) ≡ Some x
  item_at [] s x e = cc
  item_at (None ∷ xs) zero x e = cc
  item_at (Some y ∷ xs) zero x e = e
  item_at (None ∷ xs) (suc s) x e = item_at xs s x e
  item_at (Some y ∷ xs) (suc s) x e = item_at xs s x e

  pub item_there : (xs : List (Option A)) (s : ℕ) → IsSome (item_in xs s) → slice_get (items xs) (items_before xs s) ≡ item_in xs s
  item_there [] s h = cc
  item_there (None ∷ xs) zero h = cc
  item_there (Some y ∷ xs) zero h = refl
  item_there (None ∷ xs) (suc s) h = item_there xs s h
  item_there (Some y ∷ xs) (suc s) h = item_there xs s h

  -- an index below the number of items has one
  pub some_at : (ys : List A) (i : ℕ) → i < length ys → IsSome (slice_get ys i)
  some_at [] i l = absurd (omega (arith, l))
  some_at (y ∷ ys) zero l = refl
  some_at (y ∷ ys) (suc i) l = some_at ys i (omega (arith, l))

  -- an item's slot is one of those that there are
  pub item_within : (xs : List (Option A)) (s : ℕ) (x : A) → item_in xs s ≡ Some x → s < length xs
  item_within [] s x e = cc
  item_within (o ∷ xs) zero x e = omega arith
  item_within (o ∷ xs) (suc s) x e = omega (arith, item_within xs s x e)

  -- so there is such a slot
  pub some_within : (xs : List (Option A)) (s : ℕ) → IsSome (item_in xs s) → s < length xs
  some_within [] s h = cc
  some_within (o ∷ xs) zero h = omega arith
  some_within (o ∷ xs) (suc s) h = omega (arith, some_within xs s h)

  -- an item's index is below the number of items
  pub index_within : (xs : List (Option A)) (s : ℕ) (x : A) → item_in xs s ≡ Some x → items_before xs s < length (items xs)
  index_within xs s x e = slice_get_within (items xs) (items_before xs s) x (item_at xs s x e)

  -- the indexes of items rise with their slots
  pub index_rises : (xs : List (Option A)) (s t : ℕ) (x : A) → item_in xs s ≡ Some x → s < t → t ≤ length xs → items_before xs s < items_before xs t
  index_rises [] s t x e l m = cc
  index_rises (o ∷ xs) s zero x e l m = absurd (omega (arith, l))
  index_rises (None ∷ xs) zero (suc t) x e l m = cc
  index_rises (Some y ∷ xs) zero (suc t) x e l m = omega arith
  index_rises (None ∷ xs) (suc s) (suc t) x e l m = index_rises xs s t x e (omega (arith, l)) (omega (arith, m))
  index_rises (Some y ∷ xs) (suc s) (suc t) x e l m = omega (arith, index_rises xs s t x e (omega (arith, l)) (omega (arith, m)))

  -- two items of one index stand in one slot
  pub same_slot : (xs : List (Option A)) (s t : ℕ) (x y : A) → item_in xs s ≡ Some x → item_in xs t ≡ Some y → items_before xs s ≡ items_before xs t → s ≡ t
  same_slot xs s t x y e f same = elim (sides s t) [
    | inl l ↦ absurd (omega (arith, same, index_rises xs s t x e l (let w = item_within xs t y f in omega (arith, w))))
    | inr (inl is) ↦ is
    | inr (inr l) ↦ absurd (omega (arith, same, index_rises xs t s y f l (let w = item_within xs s x e in omega (arith, w))))
  ]

  -- so the slot of the item at an item's index is that item's slot
  pub slot_back : (xs : List (Option A)) (s t : ℕ) (x : A) → item_in xs s ≡ Some x → item_in xs t ≡ slice_get (items xs) (items_before xs s) → items_before xs t ≡ items_before xs s → t ≡ s
  slot_back xs s t x e there same = same_slot xs t s x x (there ∙ item_at xs s x e) e same

  -- no fewer items stand before a later slot
  pub before_grows : (xs : List (Option A)) (s t : ℕ) → s ≤ t → items_before xs s ≤ items_before xs t
  before_grows xs zero t l = omega arith
  before_grows xs (suc s) zero l = absurd (omega (arith, l))
  before_grows [] (suc s) (suc t) l = omega arith
  before_grows (None ∷ xs) (suc s) (suc t) l = before_grows xs s t (omega (arith, l))
  before_grows (Some y ∷ xs) (suc s) (suc t) l = omega (arith, before_grows xs s t (omega (arith, l)))

  -- before the end stand all
  pub before_end : (xs : List (Option A)) → items_before xs (length xs) ≡ length (items xs)
  before_end xs = ap (λ l. length (items l)) (take_all (length xs) xs (omega arith))

  -- ---- an item comes

  pub item_in-push_old : (xs : List (Option A)) (s : ℕ) (x : A) → s < length xs → item_in (xs ++ Some x ∷ []) s ≡ item_in xs s
  item_in-push_old xs s x l = get_or_append_left xs (Some x ∷ []) None s l

  pub item_in-push_new : (xs : List (Option A)) (x : A) → item_in (xs ++ Some x ∷ []) (length xs) ≡ Some x
  item_in-push_new xs x = get_or_push xs (Some x) None (length xs) refl

  pub before-push : (xs : List (Option A)) (s : ℕ) (x : A) → s ≤ length xs → items_before (xs ++ Some x ∷ []) s ≡ items_before xs s
  before-push xs s x l = ap (λ ys. length (items ys)) (take-append-le s xs (Some x ∷ []) l)

  -- ---- an item goes, or is written

  pub items-set_none : (xs : List (Option A)) (s : ℕ) (x : A) → item_in xs s ≡ Some x → items (set xs s None) ≡ remove (items xs) (items_before xs s)
  items-set_none [] s x e = cc
  items-set_none (None ∷ xs) zero x e = cc
  items-set_none (Some y ∷ xs) zero x e = refl
  items-set_none (None ∷ xs) (suc s) x e = items-set_none xs s x e
  items-set_none (Some y ∷ xs) (suc s) x e = ap (λ l. y ∷ l) (items-set_none xs s x e)

  pub items-set_some : (xs : List (Option A)) (s : ℕ) (x w : A) → item_in xs s ≡ Some x → items (set xs s (Some w)) ≡ set (items xs) (items_before xs s) w
  items-set_some [] s x w e = cc
  items-set_some (None ∷ xs) zero x w e = cc
  items-set_some (Some y ∷ xs) zero x w e = refl
  items-set_some (None ∷ xs) (suc s) x w e = items-set_some xs s x w e
  items-set_some (Some y ∷ xs) (suc s) x w e = ap (λ l. y ∷ l) (items-set_some xs s x w e)

  pub gaps-set_none : (n : ℕ) (xs : List (Option A)) (s : ℕ) (x : A) → item_in xs s ≡ Some x → gaps_from n (set xs s None) ≡ insert (gaps_from n xs) (length (gaps_from n (take s xs))) (n + s)
  gaps-set_none n [] s x e = cc
  gaps-set_none n (None ∷ xs) zero x e = cc
  gaps-set_none n (Some y ∷ xs) zero x e = let here : n ≡ n + 0 = omega arith in ap (λ m. m ∷ gaps_from (n + 1) xs) here
  gaps-set_none n (None ∷ xs) (suc s) x e =
      let there : n + 1 + s ≡ n + suc s = omega arith in
      ap (λ l. n ∷ l) (gaps-set_none (n + 1) xs s x e ∙ ap (insert (gaps_from (n + 1) xs) (length (gaps_from (n + 1) (take s xs)))) there)
  gaps-set_none n (Some y ∷ xs) (suc s) x e =
      let there : n + 1 + s ≡ n + suc s = omega arith in
      gaps-set_none (n + 1) xs s x e ∙ ap (insert (gaps_from (n + 1) xs) (length (gaps_from (n + 1) (take s xs)))) there

  pub gaps-set_some : (n : ℕ) (xs : List (Option A)) (s : ℕ) (x w : A) → item_in xs s ≡ Some x → gaps_from n (set xs s (Some w)) ≡ gaps_from n xs
  gaps-set_some n [] s x w e = cc
  gaps-set_some n (None ∷ xs) zero x w e = cc
  gaps-set_some n (Some y ∷ xs) zero x w e = refl
  gaps-set_some n (None ∷ xs) (suc s) x w e = ap (λ l. n ∷ l) (gaps-set_some (n + 1) xs s x w e)
  gaps-set_some n (Some y ∷ xs) (suc s) x w e = gaps-set_some (n + 1) xs s x w e

  -- each other slot stays as it is
  pub item_in-set_other : (xs : List (Option A)) (s t : ℕ) (o : Option A) → t ≢ s → item_in (set xs s o) t ≡ item_in xs t
  item_in-set_other xs s t o other = get_or-set_other xs s t o None other

  -- up to the slot of an item that goes, indexes stay
  pub before_stays : (xs : List (Option A)) (s t : ℕ) (o : Option A) → t ≤ s → items_before (set xs s o) t ≡ items_before xs t
  before_stays xs s zero o l = refl
  before_stays [] s (suc t) o l = refl
  before_stays (p ∷ xs) zero (suc t) o l = absurd (omega (arith, l))
  before_stays (None ∷ xs) (suc s) (suc t) o l = before_stays xs s t o (omega (arith, l))
  before_stays (Some y ∷ xs) (suc s) (suc t) o l = ap suc (before_stays xs s t o (omega (arith, l)))

  -- and behind it they fall by one
  pub before_falls : (xs : List (Option A)) (s t : ℕ) (x : A) → item_in xs s ≡ Some x → s < t → items_before xs t ≡ suc (items_before (set xs s None) t)
  before_falls [] s t x e l = cc
  before_falls (o ∷ xs) s zero x e l = absurd (omega (arith, l))
  before_falls (None ∷ xs) zero (suc t) x e l = cc
  before_falls (Some y ∷ xs) zero (suc t) x e l = refl
  before_falls (None ∷ xs) (suc s) (suc t) x e l = before_falls xs s t x e (omega (arith, l))
  before_falls (Some y ∷ xs) (suc s) (suc t) x e l = ap suc (before_falls xs s t x e (omega (arith, l)))

  -- ---- slots with no gaps

  -- the slots that have items
  pub filter_items : (xs : List (Option A)) → filter (λ o. is_some o) xs ≡ map (λ x. Some x) (items xs)
  filter_items [] = refl
  filter_items (None ∷ xs) = filter_items xs
  filter_items (Some x ∷ xs) = ap (λ l. Some x ∷ l) (filter_items xs)

  pub gaps_none : (n : ℕ) (ys : List A) → gaps_from n (map (λ x. Some x) ys) ≡ []
  gaps_none n [] = refl
  gaps_none n (y ∷ ys) = gaps_none (n + 1) ys

  pub items-map : (ys : List A) → items (map (λ x. Some x) ys) ≡ ys
  items-map [] = refl
  items-map (y ∷ ys) = ap (λ l. y ∷ l) (items-map ys)

  pub item_in-map : (ys : List A) (s : ℕ) → item_in (map (λ x. Some x) ys) s ≡ slice_get ys s
  item_in-map [] s = refl
  item_in-map (y ∷ ys) zero = refl
  item_in-map (y ∷ ys) (suc s) = item_in-map ys s

  -- each item's slot is its index
  pub before_itself : (ys : List A) (s : ℕ) → s ≤ length ys → items_before (map (λ x. Some x) ys) s ≡ s
  before_itself ys zero l = refl
  before_itself [] (suc s) l = absurd (omega (arith, l))
  before_itself (y ∷ ys) (suc s) l = ap suc (before_itself ys s (omega (arith, l)))
