-- Facts on slots in the order of their keys.
use Rattle.std.proofs.Common.{◌≡◌, ◌+◌, ◌<◌, ◌≤◌, inl, inr, ℕ, Bool, true, false, List, [], ◌∷◌, ◌++◌, length, get_or, set, Option, Some, None, is_some, arith, refl, sym, ◌∙◌, ap, subst, suc, zero}
use Rattle.std.specs.List.{All, AllPairs, Contains, insert}
use Rattle.std.specs.Cmp.{IsTotalOrder}
use Rattle.std.specs.Ordering.{eq_by_cmp, is_lt, ordering_reverse}
use Rattle.std.specs.declared.cmp.Ordering.{Ordering}
use Rattle.std.specs.declared.cmp.Ordering.TheVariants.{Less, Equal, Greater}
use Rattle.std.proofs.lemmas.Cmp.{alike_right}
use Rattle.std.proofs.lemmas.List.{get_or_append_left, get_or_default, get_or_past, get_or_push, length_push}
use Rattle.std.proofs.lemmas.List.Elements.{All-append, All-cons, All-drop, All-take, All-weaker}
use Rattle.jm_indexed.specs.Order.{has_value, IsBefore, IsNowhere, IsRising, IsSlotOf, is_below}
use Rattle.jm_indexed.proofs.Lists.{AllPairs-insert, AllPairs-set, All-set, is_equal, is_less, refuted, sides}

-- ---- slots that have a value

module _ {V : Type 0} where
  -- none stands behind the last slot
  pub value_within : (slots : List (Option V)) (i : ℕ) → has_value slots i ≡ true → i < length slots
  value_within [] i h = cc
  value_within (o ∷ slots) i h = elim (sides i (length (o ∷ slots))) [
    | inl below ↦ below
    | inr (inl same) ↦ absurd (let past : has_value (o ∷ slots) i ≡ false = ap is_some (get_or_past (o ∷ slots) i None (omega (arith, same))) in cc)
    | inr (inr above) ↦ absurd (let past : has_value (o ∷ slots) i ≡ false = ap is_some (get_or_past (o ∷ slots) i None (omega (arith, above))) in cc)
  ]

  -- a value in one more slot, which has the length as its number
  pub value_push : (slots : List (Option V)) (v : V) (i : ℕ) → i < length slots → has_value (slots ++ Some v ∷ []) i ≡ true → has_value slots i ≡ true
  value_push slots v i l h = ap is_some (sym (get_or_append_left slots (Some v ∷ []) None i l)) ∙ h

  -- where one goes, the others have theirs
  pub value_kept : (slots : List (Option V)) (s i : ℕ) → has_value (set slots s None) i ≡ true → has_value slots i ≡ true
  value_kept [] s i h = h
  value_kept (o ∷ slots) zero zero h = cc
  value_kept (o ∷ slots) zero (suc i) h = h
  value_kept (o ∷ slots) (suc s) zero h = h
  value_kept (o ∷ slots) (suc s) (suc i) h = value_kept slots s i h

  -- where one is written, the same slots have one
  pub value_written : (slots : List (Option V)) (s : ℕ) (v : V) (i : ℕ) → has_value slots s ≡ true → has_value (set slots s (Some v)) i ≡ true → has_value slots i ≡ true
  value_written [] s v i there h = h
  value_written (o ∷ slots) zero v zero there h = there
  value_written (o ∷ slots) zero v (suc i) there h = h
  value_written (o ∷ slots) (suc s) v zero there h = h
  value_written (o ∷ slots) (suc s) v (suc i) there h = value_written slots s v i there h

-- ---- keys in order

module _ {K : Type 0} {cmp : K → K → Ordering} (o : IsTotalOrder cmp) where
  chain : (a b c : K) → is_lt (cmp a b) ≡ true → is_lt (cmp b c) ≡ true → is_lt (cmp a c) ≡ true
  chain a b c h k = ap is_lt (o.trans a b c (is_less (cmp a b) h) (is_less (cmp b c) k))

  pub not_tied : (a b : K) → is_lt (cmp a b) ≡ true → cmp a b ≡ Equal → ⊥
  not_tied a b h e = let x : is_lt (cmp a b) ≡ false = ap is_lt e in cc

  -- what neither comes before another nor is tied with it comes behind it
  other_side : (a b : K) → is_lt (cmp a b) ≡ false → (cmp a b ≡ Equal → ⊥) → is_lt (cmp b a) ≡ true
  other_side a b h apart = by (cmp a b) refl
    where
      by : (r : Ordering) → cmp a b ≡ r → is_lt (cmp b a) ≡ true
      by Less e = absurd (let x : is_lt (cmp a b) ≡ true = ap is_lt e in cc)
      by Equal e = absurd (apart e)
      by Greater e = ap is_lt (o.antisymm b a ∙ ap ordering_reverse e)

  module _ (keys : List K) (order : List ℕ) (it : IsRising cmp keys order) where
    -- ---- halves

    module _ (key : K) (middle : ℕ) (inside : middle < length order) where
      pub low_half : is_below cmp keys (get_or order middle 0) key ≡ true → (k : ℕ) → k < middle + 1 → is_below cmp keys (get_or order k 0) key ≡ true
      low_half first k l = elim (sides k middle) [
        | inl below ↦ chain _ _ key (it.rising k middle 0 below inside key) first
        | inr (inl same) ↦ subst (λ n. is_below cmp keys (get_or order n 0) key ≡ true) same first
        | inr (inr above) ↦ absurd (omega (arith, l, above))
      ]

      pub high_half : is_below cmp keys (get_or order middle 0) key ≡ false → (k : ℕ) → middle ≤ k → k < length order → is_below cmp keys (get_or order k 0) key ≡ false
      high_half later k l w = elim (sides k middle) [
        | inl below ↦ absurd (omega (arith, l, below))
        | inr (inl same) ↦ subst (λ n. is_below cmp keys (get_or order n 0) key ≡ false) same later
        | inr (inr above) ↦ refuted _ (λ hit. let both = chain _ _ key (it.rising middle k 0 above w key) hit in cc)
      ]

    -- ---- a key that is looked for

    module _ (key : K) (at : ℕ) (before : (k : ℕ) → k < at → is_below cmp keys (get_or order k 0) key ≡ true) (behind : (k : ℕ) → at ≤ k → k < length order → is_below cmp keys (get_or order k 0) key ≡ false) where
      -- a slot of the order whose key is tied with it stands at the place that was found
      pub tied_there : (k : ℕ) → k < length order → cmp (get_or keys (get_or order k 0) key) key ≡ Equal → k ≡ at
      tied_there k l there = elim (sides k at) [
        | inl below ↦ absurd (not_tied _ key (before k below) there)
        | inr (inl same) ↦ sym same
        | inr (inr above) ↦ absurd (
            let inside : at < length order = omega (arith, above, l) in
            let up : is_lt (cmp (get_or keys (get_or order at 0) key) (get_or keys (get_or order k 0) key)) ≡ true = it.rising at k 0 above l key in
            let turned = alike_right o (get_or keys (get_or order k 0) key) key (get_or keys (get_or order at 0) key) there in
            let hit : is_below cmp keys (get_or order at 0) key ≡ true = ap is_lt (sym turned) ∙ up in
            let miss = behind at (omega arith) inside in
            cc)
      ]

      module _ {V : Type 0} (slots : List (Option V)) (whole : (i : ℕ) → has_value slots i ≡ true → Contains order i) where
        -- a slot that has a value and a key that is tied with it is the one that stands there
        pub same_there : (slot : ℕ) → has_value slots slot ≡ true → cmp (get_or keys slot key) key ≡ Equal → (at < length order) × (get_or order at 0 ≡ slot)
        same_there slot has tied =
            let k = whole slot has in
            let is : get_or order k.0 0 ≡ slot = get_or_default order k.0 0 slot k.1 ∙ k.2 in
            let here = tied_there k.0 k.1 (ap (λ n. cmp (get_or keys n key) key) is ∙ tied) in
            (subst (λ n. n < length order) here k.1, ap (λ n. get_or order n 0) (sym here) ∙ is)

        module _ {eq : K → K → Bool} (ties : (x y : K) → eq x y ≡ eq_by_cmp cmp x y) where
          there : (slot : ℕ) → IsSlotOf eq keys slots key slot → (at < length order) × (get_or order at 0 ≡ slot)
          there slot h = same_there slot h.value (is_equal _ (sym (ties (get_or keys slot key) key) ∙ h.equal))

          pub none_behind : length order ≤ at → IsNowhere eq keys slots key
          none_behind end slot h = let found = there slot h in omega (arith, found.0, end)

          pub none_other : eq (get_or keys (get_or order at 0) key) key ≡ false → IsNowhere eq keys slots key
          none_other other slot h = let found = there slot h in let hit : eq (get_or keys (get_or order at 0) key) key ≡ true = ap (λ n. eq (get_or keys n key) key) found.1 ∙ h.equal in cc

          pub none_left : has_value slots (get_or order at 0) ≡ false → IsNowhere eq keys slots key
          none_left gone slot h = let found = there slot h in let hit : has_value slots (get_or order at 0) ≡ true = ap (has_value slots) found.1 ∙ h.value in cc

      -- ---- one more key

      module _ (within : at ≤ length order) where
        abbrev more : List K
        more = keys ++ key ∷ []

        longer : length more ≡ length keys + 1
        longer = length_push keys key

        old_key : (i : ℕ) (d : K) → i < length keys → get_or more i d ≡ get_or keys i d
        old_key i d l = get_or_append_left keys (key ∷ []) d i l

        new_key : (d : K) → get_or more (length keys) d ≡ key
        new_key d = get_or_push keys key d (length keys) refl

        still : (i j : ℕ) → i < length keys → j < length keys → IsBefore cmp keys i j → IsBefore cmp more i j
        still i j l m h d = (λ t. is_lt (cmp (old_key i d l t) (old_key j d m t))) ∙ h d

        at_default : (k d : ℕ) (e : K) → k < length order → get_or more (get_or order k d) e ≡ get_or keys (get_or order k 0) key
        at_default k d e l =
            old_key (get_or order k d) e (it.within k d l) ∙ get_or_default keys (get_or order k d) e key (it.within k d l) ∙ ap (λ n. get_or keys n key) (get_or_default order k d 0 l)

        to_new : (k d : ℕ) → k < at → IsBefore cmp more (get_or order k d) (length keys)
        to_new k d l e = let inside : k < length order = omega (arith, l, within) in (λ t. is_lt (cmp (at_default k d e inside t) (new_key e t))) ∙ before k l

        from_new : (k d : ℕ) → k < length order → is_lt (cmp key (get_or keys (get_or order k 0) key)) ≡ true → IsBefore cmp more (length keys) (get_or order k d)
        from_new k d l up e = (λ t. is_lt (cmp (new_key e t) (at_default k d e l t))) ∙ up

        inside_more : All (λ i. i < length more) order
        inside_more = All-weaker (λ i. i < length keys) (λ i. i < length more) (λ i l. omega (arith, l, longer)) order it.within

        still_rising : AllPairs (IsBefore cmp more) order
        still_rising i j d l m = still (get_or order i d) (get_or order j d) (it.within i d (omega (arith, l, m))) (it.within j d m) (it.rising i j d l m)

        -- where no slot of the order has a key that is tied with it, its slot is put in between
        module _ (apart : (l : at < length order) → cmp (get_or keys (get_or order at 0) key) key ≡ Equal → ⊥) where
          above : (k : ℕ) → at ≤ k → k < length order → is_lt (cmp key (get_or keys (get_or order k 0) key)) ≡ true
          above k l m =
              let first : at < length order = omega (arith, l, m) in
              let up = other_side (get_or keys (get_or order at 0) key) key (behind at (omega arith) first) (apart first) in
              elim (sides k at) [
                | inl below ↦ absurd (omega (arith, below, l))
                | inr (inl same) ↦ subst (λ n. is_lt (cmp key (get_or keys (get_or order n 0) key)) ≡ true) same up
                | inr (inr over) ↦ chain key _ _ up (it.rising at k 0 over m key)
              ]

          pub IsRising-insert : IsRising cmp more (insert order at (length keys))
          IsRising-insert = record {
            within =
                All-append (λ i. i < length more) _ _ (All-take (λ i. i < length more) at order inside_more)
                (All-cons (λ i. i < length more) (length keys) _ (omega (arith, longer)) (All-drop (λ i. i < length more) at order inside_more));
            rising = AllPairs-insert (IsBefore cmp more) order at (length keys) still_rising within to_new (λ k d l m. from_new k d m (above k l m));
          }

        -- where one has, it is put in the place of that one
        module _ (inside : at < length order) (tied : cmp (get_or keys (get_or order at 0) key) key ≡ Equal) where
          over : (k : ℕ) → at < k → k < length order → is_lt (cmp key (get_or keys (get_or order k 0) key)) ≡ true
          over k l m =
              let turned = alike_right o (get_or keys (get_or order at 0) key) key (get_or keys (get_or order k 0) key) tied in
              let back = o.antisymm key (get_or keys (get_or order k 0) key) in
              let back' = o.antisymm (get_or keys (get_or order at 0) key) (get_or keys (get_or order k 0) key) in
              ap is_lt (back ∙ ap ordering_reverse (sym turned) ∙ sym back') ∙ it.rising at k 0 l m key

          pub IsRising-put : IsRising cmp more (set order at (length keys))
          IsRising-put = record {
            within = All-set (λ i. i < length more) order at (length keys) inside_more (omega (arith, longer));
            rising = AllPairs-set (IsBefore cmp more) order at (length keys) still_rising inside to_new (λ k d l m. from_new k d m (over k l m));
          }
