-- Slots that close up: their marks, and their order.
use Rattle.std.proofs.Common.{◌≡◌, ◌+◌, ◌<◌, ◌≤◌, ℕ, Bool, true, false, cond, List, [], ◌∷◌, ◌++◌, length, get_or, map, drop, replicate, Option, Some, None, is_some, arith, refl, sym, ◌∙◌, ap, subst, suc, zero}
use Rattle.std.specs.Prelude.{nat_lt}
use Rattle.std.specs.List.{All, filter}
use Rattle.std.specs.Ordering.{is_gt}
use Rattle.std.specs.declared.cmp.Ordering.{Ordering}
use Rattle.std.proofs.lemmas.Bool.Decides.{nat_tests}
use Rattle.std.proofs.lemmas.List.{append-nil, append_assoc, drop_all, drop_more, get_or-map, length-map}
use Rattle.std.proofs.lemmas.List.Elements.{All-filter, All-head, All-map, All-tail, filter_passes}
use Rattle.std.proofs.lemmas.List.Kept.{AllPairs-filter}
use Rattle.jm_slots.specs.Items.{item_in, items, items_before}
use Rattle.jm_slots.specs.Marks.{marked_below}
use Rattle.jm_slots.proofs.Items.{index_within, items-shorter}
use Rattle.jm_grouped.specs.Grouped.{items_of}
use Rattle.jm_grouped.specs.Order.{IsBefore, IsOrder, indexes_in, is_taken, marks_of}
use Rattle.jm_grouped.proofs.Taken.{Contains-indexes, index_inside, item_there, items_of_fewer, length-items_of, rises, slot_at, taken_within, the_held}

-- ---- marks

module _ {V : Type 0} where
  pub marks-length : (before gone : ℕ) (slots : List (Option V)) → length (marks_of before gone slots) ≡ length slots
  marks-length before gone [] = refl
  marks-length before gone (None ∷ slots) = ap suc (marks-length before gone slots)
  marks-length before gone (Some v ∷ slots) = ap suc (marks-length (before + 1) gone slots)

  -- a slot that is taken is marked by how many of those stand before it
  taken_mark : (before gone : ℕ) (slots : List (Option V)) (i : ℕ) → is_taken slots i ≡ true → get_or (marks_of before gone slots) i 0 ≡ before + items_before slots i
  taken_mark before gone [] i h = cc
  taken_mark before gone (None ∷ slots) zero h = cc
  taken_mark before gone (Some v ∷ slots) zero h = omega arith
  taken_mark before gone (None ∷ slots) (suc i) h = taken_mark before gone slots i h
  taken_mark before gone (Some v ∷ slots) (suc i) h = omega (arith, taken_mark (before + 1) gone slots i h)

  -- and an empty one by the mark of those
  empty_mark : (before gone : ℕ) (slots : List (Option V)) (i : ℕ) → i < length slots → is_taken slots i ≡ false → get_or (marks_of before gone slots) i 0 ≡ gone
  empty_mark before gone [] i l h = absurd (omega (arith, l))
  empty_mark before gone (None ∷ slots) zero l h = refl
  empty_mark before gone (Some v ∷ slots) zero l h = cc
  empty_mark before gone (None ∷ slots) (suc i) l h = empty_mark before gone slots i (omega (arith, l)) h
  empty_mark before gone (Some v ∷ slots) (suc i) l h = empty_mark (before + 1) gone slots i (omega (arith, l)) h

  before_within : (slots : List (Option V)) (i : ℕ) → is_taken slots i ≡ true → items_before slots i < length slots
  before_within slots i h = let v = the_held slots i h in omega (arith, index_within slots i v.0 v.1, items-shorter slots)

  -- the slots of the order that are taken, each as its mark says
  module _ (slots : List (Option V)) (marks : List ℕ) (is : marks ≡ marks_of 0 (length slots) slots) where
    many : length marks ≡ length slots
    many = ap length is ∙ marks-length 0 (length slots) slots

    abbrev left_of : List ℕ → List ℕ
    left_of order = filter (λ n. nat_lt n (length marks)) (map (λ n. get_or marks n 0) order)

    pub places_kept : (order : List ℕ) → All (λ i. i < length slots) order → left_of order ≡ indexes_in slots order
    places_kept [] within = refl
    places_kept (s ∷ order) within = by (is_taken slots s) refl (places_kept order (All-tail (λ i. i < length slots) s order within))
      where
        by : (b : Bool) → is_taken slots s ≡ b → left_of order ≡ indexes_in slots order → cond (nat_lt (get_or marks s 0) (length marks)) (get_or marks s 0 ∷ left_of order) (left_of order) ≡ map (items_before slots) (cond b (s ∷ filter (is_taken slots) order) (filter (is_taken slots) order))
        by true h later =
            let mark : get_or marks s 0 ≡ items_before slots s = ap (λ ms. get_or ms s 0) is ∙ taken_mark 0 (length slots) slots s h ∙ omega arith in
            let below : get_or marks s 0 < length marks = omega (arith, mark, before_within slots s h, many) in
            let test : nat_lt (get_or marks s 0) (length marks) ≡ true = grind (arith, nat_tests) in
            ap (λ b. cond b (get_or marks s 0 ∷ left_of order) (left_of order)) test ∙ (λ i. mark i ∷ later i)
        by false h later =
            let mark : get_or marks s 0 ≡ length slots = ap (λ ms. get_or ms s 0) is ∙ empty_mark 0 (length slots) slots s (All-head (λ i. i < length slots) s order within) h in
            let past : length marks ≤ get_or marks s 0 = omega (arith, mark, many) in
            let test : nat_lt (get_or marks s 0) (length marks) ≡ false = grind (arith, nat_tests) in
            ap (λ b. cond b (get_or marks s 0 ∷ left_of order) (left_of order)) test ∙ later

  -- ---- the walk that marks

  module _ (gone : ℕ) (slots : List (Option V)) (marks all : List ℕ) (before at : ℕ) (so_far : marks ++ marks_of before gone (drop at slots) ≡ all) where
    pub mark_stays : is_taken slots at ≡ true → (marks ++ before ∷ []) ++ marks_of (before + 1) gone (drop (at + 1) slots) ≡ all
    mark_stays h =
        let v = the_held slots at h in
        append_assoc marks (before ∷ []) (marks_of (before + 1) gone (drop (at + 1) slots))
        ∙ ap (λ o. marks ++ marks_of before gone (o ∷ drop (at + 1) slots)) (sym v.1)
        ∙ ap (λ xs. marks ++ marks_of before gone xs) (sym (drop_more slots at None (taken_within slots at h))) ∙ so_far

    pub mark_goes : at < length slots → is_taken slots at ≡ false → (marks ++ gone ∷ []) ++ marks_of before gone (drop (at + 1) slots) ≡ all
    mark_goes l h =
        append_assoc marks (gone ∷ []) (marks_of before gone (drop (at + 1) slots))
        ∙ ap (λ o. marks ++ marks_of before gone (o ∷ drop (at + 1) slots)) (sym (none (item_in slots at) h))
        ∙ ap (λ xs. marks ++ marks_of before gone xs) (sym (drop_more slots at None l)) ∙ so_far
      where
        none : (o : Option V) → is_some o ≡ false → o ≡ None
        none None e = refl
        none (Some v) e = cc

    pub marks_done : length slots ≤ at → marks ≡ all
    marks_done past = sym (append-nil marks) ∙ ap (λ xs. marks ++ marks_of before gone xs) (sym (drop_all at slots past)) ∙ so_far

-- ---- the items that are left

module _ {T V : Type 0} where
  pub marked_items : (before gone : ℕ) (xs : List T) (slots : List (Option V)) → length slots ≡ length xs → before + length (items slots) ≤ gone → marked_below gone (marks_of before gone slots) xs ≡ items_of xs slots
  marked_items before gone [] [] even fits = refl
  marked_items before gone [] (o ∷ slots) even fits = absurd (omega (arith, even))
  marked_items before gone (x ∷ xs) [] even fits = refl
  marked_items before gone (x ∷ xs) (None ∷ slots) even fits =
      let past : nat_lt gone gone ≡ false = grind (arith, nat_tests) in
      let later = marked_items before gone xs slots (omega (arith, even)) fits in
      ap (λ b. cond b (x ∷ marked_below gone (marks_of before gone slots) xs) (marked_below gone (marks_of before gone slots) xs)) past ∙ later
  marked_items before gone (x ∷ xs) (Some v ∷ slots) even fits =
      let below : nat_lt before gone ≡ true = grind (arith, nat_tests) in
      let later = marked_items (before + 1) gone xs slots (omega (arith, even)) (omega (arith, fits)) in
      ap (λ b. cond b (x ∷ marked_below gone (marks_of (before + 1) gone slots) xs) (marked_below gone (marks_of (before + 1) gone slots) xs)) below ∙ ap (λ ys. x ∷ ys) later

  -- all items are there where each slot is taken
  pub items_of-all : (xs : List T) (held : List V) → length held ≡ length xs → items_of xs (map (λ v. Some v) held) ≡ xs
  items_of-all [] held even = refl
  items_of-all (x ∷ xs) [] even = absurd (omega (arith, even))
  items_of-all (x ∷ xs) (v ∷ held) even = ap (λ ys. x ∷ ys) (items_of-all xs held (omega (arith, even)))

  -- also where what they hold says nothing
  pub items_of-replicate : (xs : List T) (v : V) (n : ℕ) → n ≡ length xs → items_of xs (replicate n (Some v)) ≡ xs
  items_of-replicate [] v n even = refl
  items_of-replicate (x ∷ xs) v zero even = absurd (omega (arith, even))
  items_of-replicate (x ∷ xs) v (suc n) even = ap (λ ys. x ∷ ys) (items_of-replicate xs v n (omega (arith, even)))

-- ---- the order of the slots that are left, each at its index

module _ {T V : Type 0} {cmp : T → T → Ordering} (xs : List T) (slots : List (Option V)) (order : List ℕ) (it : IsOrder cmp xs slots order) (even : length slots ≡ length xs) where
  abbrev kept : List ℕ
  kept = filter (is_taken slots) order

  taken : All (λ s. is_taken slots s ≡ true) kept
  taken = filter_passes (is_taken slots) order

  inside : All (λ s. s < length xs) kept
  inside = All-filter (is_taken slots) (λ s. s < length xs) order it.rises.within

  -- slots in order have their indexes in order
  moved : (s t : ℕ) → s < length xs → t < length xs → is_taken slots s ≡ true → is_taken slots t ≡ true → IsBefore cmp xs s t → IsBefore cmp (items_of xs slots) (items_before slots s) (items_before slots t)
  moved s t l m h k up = record {
    not_above = λ d. (λ i. is_gt (cmp (item_there xs slots s d l h i) (item_there xs slots t d m k i))) ∙ up.not_above d;
    in_turn = λ d e. rises slots s t h k (up.in_turn d ((λ i. cmp (sym (item_there xs slots s d l h) i) (sym (item_there xs slots t d m k) i)) ∙ e));
  }

  IsOrder-closed : {W : Type 0} (slots' : List (Option W)) → length slots' ≡ length (items_of xs slots) → IsOrder cmp (items_of xs slots) slots' (indexes_in slots order)
  IsOrder-closed slots' few = record {
    rises = record {
      within = All-map (λ n. n < length (items_of xs slots)) (items_before slots) kept (λ k d l. index_inside xs slots (get_or kept k d) even (taken k d l));
      rising = λ i j d l m.
          let m' : j < length kept = omega (arith, m, length-map kept (items_before slots)) in
          let l' : i < length kept = omega (arith, l, m') in
          let up = AllPairs-filter (IsBefore cmp xs) (is_taken slots) order it.rises.rising i j d l m' in
          subst (λ n. IsBefore cmp (items_of xs slots) n (get_or (indexes_in slots order) j d)) (sym (get_or-map (items_before slots) kept i d d l'))
          (subst (IsBefore cmp (items_of xs slots) (items_before slots (get_or kept i d))) (sym (get_or-map (items_before slots) kept j d d m'))
          (moved (get_or kept i d) (get_or kept j d) (inside i d l') (inside j d m') (taken i d l') (taken j d m') up));
    };
    whole = λ n h.
        let l = taken_within slots' n h in
        let found = slot_at xs slots n (omega (arith, l, few)) in
        let t = found.1 in
        Contains-indexes slots order found.0 n (it.whole found.0 t.taken) t.taken t.index_is;
  }

  -- the order of a copy of the items, and of the slots that are left
  pub IsOrder-copied : {W : Type 0} (xs' : List T) (slots' : List (Option W)) (order' : List ℕ) → xs' ≡ items_of xs slots → length slots' ≡ length xs' → order' ≡ indexes_in slots order → IsOrder cmp xs' slots' order'
  IsOrder-copied xs' slots' order' xs_are few order_is =
      subst (λ ys. IsOrder cmp ys slots' order') (sym xs_are) (subst (IsOrder cmp (items_of xs slots) slots') (sym order_is) (IsOrder-closed slots' (few ∙ ap length xs_are)))

  -- what has to be shown of the columns once the slots closed up
  pub record IsClosed (xs' : List T) (slots' : List (Option V)) (order' : List ℕ) : Type 0 where
    pub ordered : IsOrder cmp xs' slots' order'
    pub as_many : length slots' ≡ length xs'
    pub items_are : items_of xs' slots' ≡ items_of xs slots
    pub fewer : length xs' ≤ length xs

  -- they did, where their marks were written, and read twice
  pub are_closed : (marks read again : List ℕ) (gone : ℕ) → marks ≡ marks_of 0 (length slots) slots → read ≡ marks → again ≡ marks → gone ≡ length slots
      → (xs' : List T) (slots' : List (Option V)) (order' : List ℕ) → order' ≡ filter (λ n. nat_lt n (length read)) (map (λ n. get_or read n 0) order)
      → xs' ≡ marked_below gone again xs → slots' ≡ map (λ v. Some v) (items slots) → IsClosed xs' slots' order'
  are_closed marks read again gone marks_are read_is again_is gone_is xs' slots' order' order_is xs_are slots_are =
      let left : xs' ≡ items_of xs slots = xs_are ∙ (λ i. marked_below (gone_is i) ((again_is ∙ marks_are) i) xs) ∙ marked_items 0 (length slots) xs slots even (omega (arith, items-shorter slots)) in
      let places : order' ≡ indexes_in slots order = order_is ∙ places_kept slots read (read_is ∙ marks_are) order (λ k d l. omega (arith, it.rises.within k d l, even)) in
      let held : length slots' ≡ length (items slots) = ap length slots_are ∙ length-map (items slots) (λ v. Some v) in
      let as_many : length slots' ≡ length xs' = omega (arith, held, length-items_of xs slots even, ap length left) in
      record {
        ordered = IsOrder-copied xs' slots' order' left as_many places;
        as_many = as_many;
        items_are = (λ i. items_of (left i) (slots_are i)) ∙ items_of-all (items_of xs slots) (items slots) (sym (length-items_of xs slots even));
        fewer = omega (arith, ap length left, items_of_fewer xs slots);
      }
