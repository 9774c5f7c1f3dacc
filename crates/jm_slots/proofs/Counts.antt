-- Where a search among the gaps ends.
use Rattle.std.proofs.Common.{◌≡◌, ℕ, ◌+◌, ◌<◌, ◌≤◌, inl, inr, List, length, get_or, set, take, Option, Some, None, arith, refl, sym, ◌∙◌, ap}
use Rattle.std.specs.List.{insert, slice_get}
use Rattle.std.proofs.lemmas.List.{length-take-le}
use Rattle.jm_slots.specs.Items.{gaps_from, item_in, items, items_before}
use Rattle.jm_slots.proofs.Items.{gap_behind, gap_below, gap_there, gaps-set_none, gaps_fewer, item_at, items-gaps, sides}

module _ {A : Type 0} (xs : List (Option A)) (gaps : List ℕ) (is : gaps ≡ gaps_from 0 xs) where
  abbrev gaps_before : ℕ → ℕ
  gaps_before s = length (gaps_from 0 (take s xs))

  same : (j : ℕ) → get_or gaps j 0 ≡ get_or (gaps_from 0 xs) j 0
  same j = ap (λ l. get_or l j 0) is

  many : length gaps ≡ length (gaps_from 0 xs)
  many = ap length is

  -- what has only lower gaps before it, and no lower ones behind it, is the number of those before the slot
  pub count_is : (s k : ℕ) → k ≤ length gaps → ((j : ℕ) → j < k → get_or gaps j 0 < s) → ((j : ℕ) → k ≤ j → j < length gaps → s ≤ get_or gaps j 0) → length (gaps_from 0 (take s xs)) ≡ k
  count_is s k within below behind = elim (sides k (gaps_before s)) [
    | inl l ↦ absurd (
        let low = gap_below 0 xs s k l in
        let high = behind k (omega arith) (omega (arith, l, many, gaps_fewer 0 xs s)) in
        omega (arith, low, high, same k))
    | inr (inl e) ↦ sym e
    | inr (inr l) ↦ absurd (
        let low = below (gaps_before s) l in
        let high = gap_behind 0 xs s (gaps_before s) (omega arith) (omega (arith, l, within, many)) in
        omega (arith, low, high, same (gaps_before s)))
  ]

  -- the slot of an item that goes is put among the gaps, behind those before it
  pub gap_comes : (s k : ℕ) (x : A) → item_in xs s ≡ Some x → length (gaps_from 0 (take s xs)) ≡ k → insert gaps k s ≡ gaps_from 0 (set xs s None)
  gap_comes s k x e count =
      let here : s ≡ 0 + s = omega arith in
      (λ i. insert (is i) (sym count i) (here i)) ∙ sym (gaps-set_none 0 xs s x e)

  -- a slot, less the gaps before it, is the number of the items before it
  pub index_is : (s k : ℕ) → s ≤ length xs → length (gaps_from 0 (take s xs)) ≡ k → items_before xs s + k ≡ s
  index_is s k l e = omega (arith, items-gaps 0 (take s xs), length-take-le s xs l, e)

  module _ (index k : ℕ) (inside : index < length (items xs)) (within : k ≤ length gaps)
      (passed : (j : ℕ) → j < k → get_or gaps j 0 ≤ index + j) (ahead : (j : ℕ) → k ≤ j → j < length gaps → index + j < get_or gaps j 0) where
    -- the slot that is found is one of those that there are
    pub slot_within : index + k < length xs
    slot_within = omega (arith, inside, within, many, items-gaps 0 xs)

    before : gaps_before (index + k) ≡ k
    before = count_is (index + k) k within (λ j l. let p = passed j l in omega (arith, p, l)) (λ j l m. let a = ahead j l m in omega (arith, a, l))

    -- as many items stand before it as the index says
    pub slot_index : items_before xs (index + k) ≡ index
    slot_index = omega (arith, index_is (index + k) k (omega (arith, slot_within)) before)

    -- and the item of that index stands there
    pub slot_item : item_in xs (index + k) ≡ slice_get (items xs) index
    slot_item = by (item_in xs (index + k)) refl
      where
        by : (o : Option A) → item_in xs (index + k) ≡ o → item_in xs (index + k) ≡ slice_get (items xs) index
        by None e = absurd (
            let there = gap_there 0 xs (index + k) slot_within e in
            let inside_there = there.0 in
            let is_there = there.1 in
            let far = ahead (gaps_before (index + k)) (omega (arith, before)) (omega (arith, inside_there, many)) in
            omega (arith, far, is_there, same (gaps_before (index + k)), before))
        by (Some x) e = e ∙ sym (item_at xs (index + k) x e) ∙ ap (slice_get (items xs)) slot_index
