-- The order of a copy, whose slots have no gaps.
use Rattle.std.proofs.Common.{◌≡◌, ◌+◌, ◌<◌, ◌∙◌, ◌++◌, ℕ, true, false, cond, List, [], ◌∷◌, length, get_or, map, take, replicate, Option, Some, arith, refl, sym, ap, suc, zero}
use Rattle.std.specs.Cmp.{IsTotalOrder}
use Rattle.std.specs.List.{Contains, filter}
use Rattle.std.specs.Map.{keys_of}
use Rattle.std.specs.declared.cmp.Ordering.{Ordering}
use Rattle.std.proofs.lemmas.List.{append-nil, length-replicate, map-append}
use Rattle.std.proofs.lemmas.List.Elements.{All-filter, filter_more, filter_passes}
use Rattle.std.proofs.lemmas.List.Kept.{AllPairs-filter}
use Rattle.jm_slots.specs.Items.{items_before}
use Rattle.jm_slots.proofs.Items.{index_within}
use Rattle.jm_indexed.specs.Entries.{entries_of}
use Rattle.jm_indexed.specs.Order.{has_value, IsBefore, IsOrder}
use Rattle.jm_indexed.proofs.Changed.{IsOrder-moved}
use Rattle.jm_indexed.proofs.Lists.{Contains-filter}
use Rattle.jm_indexed.proofs.Orders.{value_within}
use Rattle.jm_indexed.proofs.Slotted.{key_there, length-entries, length-keys_of, slot_at, the_item}

-- a slot with a value that says nothing
abbrev pub held : Option (Unit {0})
held = Some tt

-- so many of them
abbrev pub all_held : ℕ → List (Option (Unit {0}))
all_held n = replicate n held

-- all keys are there where each slot has a value
pub keys_of-all : {K : Type 0} (keys : List K) (n : ℕ) → n ≡ length keys → keys_of (entries_of keys (all_held n)) ≡ keys
keys_of-all [] n even = refl
keys_of-all (k ∷ keys) zero even = absurd (omega (arith, even))
keys_of-all (k ∷ keys) (suc n) even = ap (λ ks. k ∷ ks) (keys_of-all keys n (omega (arith, even)))

-- one more slot of the order
pub copied_more : {V : Type 0} (slots : List (Option V)) (order copy : List ℕ) (i : ℕ) → i < length order → has_value slots (get_or order i 0) ≡ true
    → copy ≡ map (items_before slots) (filter (has_value slots) (take i order)) → copy ++ items_before slots (get_or order i 0) ∷ [] ≡ map (items_before slots) (filter (has_value slots) (take (i + 1) order))
copied_more slots order copy i l has so_far =
    let there = get_or order i 0 in
    ap (λ xs. xs ++ items_before slots there ∷ []) so_far ∙ sym (map-append (items_before slots) (filter (has_value slots) (take i order)) (there ∷ []))
    ∙ ap (λ b. map (items_before slots) (filter (has_value slots) (take i order) ++ cond b (there ∷ []) [])) (sym has)
    ∙ ap (map (items_before slots)) (sym (filter_more (has_value slots) order i 0 l))

-- one that has no value
pub copied_empty : {V : Type 0} (slots : List (Option V)) (order copy : List ℕ) (i : ℕ) → i < length order → has_value slots (get_or order i 0) ≡ false
    → copy ≡ map (items_before slots) (filter (has_value slots) (take i order)) → copy ≡ map (items_before slots) (filter (has_value slots) (take (i + 1) order))
copied_empty slots order copy i l empty so_far =
    let there = get_or order i 0 in
    so_far ∙ ap (map (items_before slots)) (sym (append-nil (filter (has_value slots) (take i order))))
    ∙ ap (λ b. map (items_before slots) (filter (has_value slots) (take i order) ++ cond b (there ∷ []) [])) (sym empty)
    ∙ ap (map (items_before slots)) (sym (filter_more (has_value slots) order i 0 l))

module _ {K V : Type 0} {cmp : K → K → Ordering} (o : IsTotalOrder cmp) (keys : List K) (slots : List (Option V)) (order : List ℕ) (it : IsOrder cmp keys slots order) (even : length slots ≡ length keys)
    (n : ℕ) (many : n ≡ length (entries_of keys slots)) where
  abbrev Held : ℕ → Type 0
  Held i = (i < length keys) × (has_value slots i ≡ true)

  index_inside : (i : ℕ) → Held i → items_before slots i < length (keys_of (entries_of keys slots))
  index_inside i h =
      let v = the_item slots i h.1 in
      omega (arith, index_within slots i v.0 v.1, length-entries keys slots even, length-keys_of (entries_of keys slots))

  each_held : (i : ℕ) → has_value (all_held n) i ≡ true → (j : ℕ) × Contains (filter (has_value slots) order) j × (items_before slots j ≡ i)
  each_held i h =
      let l = value_within (all_held n) i h in
      let s = slot_at keys slots i (omega (arith, l, length-replicate n held, many)) in
      let t = s.1 in
      (s.0, Contains-filter (has_value slots) order s.0 (it.whole s.0 t.value) t.value, t.index_is)

  -- each slot stands at the index of its entry
  pub IsOrder-copy : IsOrder cmp (keys_of (entries_of keys slots)) (all_held n) (map (items_before slots) (filter (has_value slots) order))
  IsOrder-copy =
      IsOrder-moved o keys slots order it (keys_of (entries_of keys slots)) (all_held n) (filter (has_value slots) order) Held (items_before slots)
      (λ k d m. (All-filter (has_value slots) (λ i. i < length keys) order it.rises.within k d m, filter_passes (has_value slots) order k d m))
      (AllPairs-filter (IsBefore cmp keys) (has_value slots) order it.rises.rising)
      index_inside (λ i d h. key_there keys slots i d h.0 h.1) each_held
