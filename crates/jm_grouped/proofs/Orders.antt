-- Facts on slots in the order of their items.
use Rattle.std.proofs.Common.{◌≡◌, ◌+◌, ◌-◌, ◌<◌, ◌≤◌, inl, inr, ℕ, Bool, true, false, ◌&&◌, ◌||◌, List, [], ◌∷◌, ◌++◌, length, get_or, arith, refl, sym, ◌∙◌, ap, subst}
use Rattle.std.specs.List.{All, between, insert}
use Rattle.std.specs.Cmp.{IsTotalOrder}
use Rattle.std.specs.Ordering.{eq_by_cmp, is_eq, is_gt, is_lt, ordering_reverse}
use Rattle.std.specs.declared.cmp.Ordering.{Ordering}
use Rattle.std.specs.declared.cmp.Ordering.TheVariants.{Less, Equal, Greater}
use Rattle.std.proofs.lemmas.Cmp.{alike_right, tied_back}
use Rattle.std.proofs.lemmas.List.{get_or_append_left, get_or_default, get_or_push, length_push}
use Rattle.std.proofs.lemmas.List.Edits.{get_or-between, length-between}
use Rattle.std.proofs.lemmas.List.Elements.{All-append, All-cons, All-drop, All-take, All-weaker}
use Rattle.jm_slots.proofs.Items.{sides}
use Rattle.jm_grouped.specs.Order.{IsBefore, IsGroup, IsRising, is_counted}
use Rattle.jm_grouped.proofs.Lists.{AllPairs-insert, refuted}

-- ---- how an item stands to a value

-- whether an item that stands so to a value is counted
abbrev pub counts : Bool → Ordering → Bool
counts and_equal side = is_lt side || and_equal && is_eq side

is_equal : (r : Ordering) → is_eq r ≡ true → r ≡ Equal
is_equal Less e = cc
is_equal Equal e = refl
is_equal Greater e = cc

-- what is above the value is not counted
past : (w : Bool) → counts w Greater ≡ false
past true = refl
past false = refl

-- what is counted only where equal ones are is equal
equal_from : (r : Ordering) → counts false r ≡ false → counts true r ≡ true → is_eq r ≡ true
equal_from Less h k = cc
equal_from Equal h k = refl
equal_from Greater h k = cc

not_below : (r : Ordering) → is_eq r ≡ true → counts false r ≡ false
not_below Less e = cc
not_below Equal e = refl
not_below Greater e = cc

not_past : (r : Ordering) → is_eq r ≡ true → counts true r ≡ true
not_past Less e = cc
not_past Equal e = refl
not_past Greater e = cc

not_above_from : (r : Ordering) → counts true r ≡ true → is_gt r ≡ false
not_above_from Less h = refl
not_above_from Equal h = refl
not_above_from Greater h = cc

above_from : (r : Ordering) → counts true r ≡ false → r ≡ Greater
above_from Less h = cc
above_from Equal h = cc
above_from Greater h = refl

-- what a test of an item says of the slot that it was read from
pub told : {T : Type 0} (cmp : T → T → Ordering) (w : Bool) (value x y : T) (side : Ordering) (answer : Bool) → x ≡ y → side ≡ cmp x value → answer ≡ counts w side → counts w (cmp y value) ≡ answer
told cmp w value x y side answer same is says = sym (says ∙ ap (counts w) (is ∙ ap (λ z. cmp z value) same))

module _ {T : Type 0} {cmp : T → T → Ordering} (o : IsTotalOrder cmp) where
  -- what is not above one that is counted is counted
  counts_down : (w : Bool) (a b v : T) → is_gt (cmp a b) ≡ false → counts w (cmp b v) ≡ true → counts w (cmp a v) ≡ true
  counts_down w a b v h k = by (cmp a b) refl (cmp b v) refl
    where
      by : (r : Ordering) → cmp a b ≡ r → (s : Ordering) → cmp b v ≡ s → counts w (cmp a v) ≡ true
      by Less e Less f = ap (counts w) (o.trans a b v e f)
      by Less e Equal f = ap (counts w) (sym (alike_right o b v a f) ∙ e)
      by Less e Greater f = absurd (let no : counts w (cmp b v) ≡ false = ap (counts w) f ∙ past w in cc)
      by Equal e s f = ap (counts w) (o.congr a b v e) ∙ k
      by Greater e s f = absurd (let no : is_gt (cmp a b) ≡ true = ap is_gt e in cc)

  module _ (items : List T) (order : List ℕ) (it : IsRising cmp items order) (value : T) where
    -- ---- halves

    module _ (w : Bool) (middle : ℕ) (inside : middle < length order) where
      pub low_half : is_counted cmp items value w (get_or order middle 0) ≡ true → (k : ℕ) → k < middle + 1 → is_counted cmp items value w (get_or order k 0) ≡ true
      low_half first k l = elim (sides k middle) [
        | inl below ↦ counts_down w _ _ value ((it.rising k middle 0 below inside).not_above value) first
        | inr (inl same) ↦ subst (λ n. is_counted cmp items value w (get_or order n 0) ≡ true) (sym same) first
        | inr (inr above) ↦ absurd (omega (arith, l, above))
      ]

      pub high_half : is_counted cmp items value w (get_or order middle 0) ≡ false → (k : ℕ) → middle ≤ k → k < length order → is_counted cmp items value w (get_or order k 0) ≡ false
      high_half later k l m = elim (sides k middle) [
        | inl below ↦ absurd (omega (arith, l, below))
        | inr (inl same) ↦ subst (λ n. is_counted cmp items value w (get_or order n 0) ≡ false) (sym same) later
        | inr (inr above) ↦ refuted _ (λ hit. let both = counts_down w _ _ value ((it.rising middle k 0 above m).not_above value) hit in cc)
      ]

    -- ---- the slots of equal items

    module _ (first end : ℕ) (below : (k : ℕ) → k < first → is_counted cmp items value false (get_or order k 0) ≡ true) (not_less : (k : ℕ) → first ≤ k → k < length order → is_counted cmp items value false (get_or order k 0) ≡ false)
        (up_to : (k : ℕ) → k < end → is_counted cmp items value true (get_or order k 0) ≡ true) (over : (k : ℕ) → end ≤ k → k < length order → is_counted cmp items value true (get_or order k 0) ≡ false) (starts : first ≤ length order) (ends : end ≤ length order) where
      module _ {eq : T → T → Bool} (ties : (x y : T) → eq x y ≡ eq_by_cmp cmp x y) where
        abbrev group : List ℕ
        group = between first end order

        many : length group ≡ end - first
        many = length-between order first end ends

        at_group : (k d : ℕ) → k < length group → get_or group k d ≡ get_or order (first + k) d
        at_group k d l = get_or-between order first end k d (omega (arith, l, many))

        inside_order : (k : ℕ) → k < length group → first + k < length order
        inside_order k l = omega (arith, l, many, ends)

        equal_at : (k : ℕ) → k < length group → is_eq (cmp (get_or items (get_or order (first + k) 0) value) value) ≡ true
        equal_at k l = equal_from _ (not_less (first + k) (omega arith) (inside_order k l)) (up_to (first + k) (omega (arith, l, many)))

        tied : (a b : T) → is_eq (cmp a value) ≡ true → is_eq (cmp b value) ≡ true → cmp a b ≡ Equal
        tied a b h k = o.congr a value b (is_equal _ h) ∙ tied_back o b value (is_equal _ k)

        pub IsGroup-between : IsGroup eq items order value group
        IsGroup-between = record {
          rising = λ i j d l m.
              let l' : i < length group = omega (arith, l, m) in
              let a : get_or group i d ≡ get_or order (first + i) 0 = at_group i d l' ∙ get_or_default order (first + i) d 0 (inside_order i l') in
              let b : get_or group j d ≡ get_or order (first + j) 0 = at_group j d m ∙ get_or_default order (first + j) d 0 (inside_order j m) in
              let up = (it.rising (first + i) (first + j) 0 (omega (arith, l)) (inside_order j m)).in_turn value (tied _ _ (equal_at i l') (equal_at j m)) in
              omega (arith, up, a, b);
          equal = λ k d l.
              let a : get_or group k d ≡ get_or order (first + k) 0 = at_group k d l ∙ get_or_default order (first + k) d 0 (inside_order k l) in
              subst (λ n. (n < length items) × (eq (get_or items n value) value ≡ true)) (sym a)
              (it.within (first + k) 0 (inside_order k l), ties (get_or items (get_or order (first + k) 0) value) value ∙ equal_at k l);
          whole = λ slot there hit.
              let k = there.0 in
              let is : get_or order k 0 ≡ slot = get_or_default order k 0 slot there.1 ∙ there.2 in
              let same : is_eq (cmp (get_or items (get_or order k 0) value) value) ≡ true = ap (λ n. is_eq (cmp (get_or items n value) value)) is ∙ sym (ties (get_or items slot value) value) ∙ hit in
              let from : first ≤ k = elim (sides k first) [
                | inl wrong ↦ absurd (let a = below k wrong in let b = not_below _ same in cc)
                | inr (inl e) ↦ omega (arith, e)
                | inr (inr l) ↦ omega (arith, l)
              ] in
              let to : k < end = elim (sides k end) [
                | inl l ↦ l
                | inr (inl e) ↦ absurd (let a = over k (omega (arith, e)) there.1 in let b = not_past _ same in cc)
                | inr (inr l) ↦ absurd (let a = over k (omega (arith, l)) there.1 in let b = not_past _ same in cc)
              ] in
              let inside : k - first < length group = omega (arith, from, to, many) in
              let back : first + (k - first) ≡ k = omega (arith, from) in
              (k - first, inside, at_group (k - first) slot inside ∙ ap (λ n. get_or order n slot) back ∙ there.2);
        }

    -- ---- one more item

    module _ (at : ℕ) (before : (k : ℕ) → k < at → is_counted cmp items value true (get_or order k 0) ≡ true) (behind : (k : ℕ) → at ≤ k → k < length order → is_counted cmp items value true (get_or order k 0) ≡ false) (within : at ≤ length order) where
      abbrev more : List T
      more = items ++ value ∷ []

      longer : length more ≡ length items + 1
      longer = length_push items value

      old_item : (i : ℕ) (d : T) → i < length items → get_or more i d ≡ get_or items i d
      old_item i d l = get_or_append_left items (value ∷ []) d i l

      new_item : (d : T) → get_or more (length items) d ≡ value
      new_item d = get_or_push items value d (length items) refl

      still : (i j : ℕ) → i < length items → j < length items → IsBefore cmp items i j → IsBefore cmp more i j
      still i j l m h = record {
        not_above = λ d. (λ t. is_gt (cmp (old_item i d l t) (old_item j d m t))) ∙ h.not_above d;
        in_turn = λ d e. h.in_turn d ((λ t. cmp (sym (old_item i d l) t) (sym (old_item j d m) t)) ∙ e);
      }

      at_default : (k d : ℕ) (e : T) → k < length order → get_or more (get_or order k d) e ≡ get_or items (get_or order k 0) value
      at_default k d e l =
          old_item (get_or order k d) e (it.within k d l) ∙ get_or_default items (get_or order k d) e value (it.within k d l) ∙ ap (λ n. get_or items n value) (get_or_default order k d 0 l)

      to_new : (k d : ℕ) → k < at → IsBefore cmp more (get_or order k d) (length items)
      to_new k d l =
          let inside : k < length order = omega (arith, l, within) in
          record {
            not_above = λ e. (λ t. is_gt (cmp (at_default k d e inside t) (new_item e t))) ∙ not_above_from _ (before k l);
            in_turn = λ e same. it.within k d inside;
          }

      from_new : (k d : ℕ) → at ≤ k → k < length order → IsBefore cmp more (length items) (get_or order k d)
      from_new k d l m =
          let x = get_or items (get_or order k 0) value in
          let up : cmp value x ≡ Less = o.antisymm value x ∙ ap ordering_reverse (above_from _ (behind k l m)) in
          record {
            not_above = λ e. (λ t. is_gt (cmp (new_item e t) (at_default k d e m t))) ∙ ap is_gt up;
            in_turn = λ e same. absurd (let no : Less ≡ Equal = sym up ∙ (λ t. cmp (sym (new_item e) t) (sym (at_default k d e m) t)) ∙ same in cc);
          }

      inside_more : All (λ i. i < length more) order
      inside_more = All-weaker (λ i. i < length items) (λ i. i < length more) (λ i l. omega (arith, l, longer)) order it.within

      pub IsRising-insert : IsRising cmp more (insert order at (length items))
      IsRising-insert = record {
        within =
            All-append (λ i. i < length more) _ _ (All-take (λ i. i < length more) at order inside_more)
            (All-cons (λ i. i < length more) (length items) _ (omega (arith, longer)) (All-drop (λ i. i < length more) at order inside_more));
        rising =
            AllPairs-insert (IsBefore cmp more) order at (length items)
            (λ i j d l m. still (get_or order i d) (get_or order j d) (it.within i d (omega (arith, l, m))) (it.within j d m) (it.rising i j d l m)) within to_new from_new;
      }
