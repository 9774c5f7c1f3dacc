-- What stays of entries that are marked.
use Rattle.std.proofs.Common.{◌≡◌, ◌+◌, ◌-◌, ◌<◌, ◌≤◌, ℕ, Bool, true, false, cond, List, [], ◌∷◌, ◌++◌, length, get_or, map, drop, Option, Some, None, arith, refl, sym, ◌∙◌, ap, subst, suc, zero}
use Rattle.std.specs.Prelude.{nat_lt}
use Rattle.std.specs.Cmp.{IsTotalOrder}
use Rattle.std.specs.declared.cmp.Ordering.{Ordering}
use Rattle.std.specs.List.{Contains, filter, zip}
use Rattle.std.specs.Map.{keys_of, values_of}
use Rattle.std.proofs.lemmas.Bool.Decides.{nat_tests}
use Rattle.std.proofs.Math.ListN.{drop_of_length-le}
use Rattle.std.proofs.lemmas.List.{append-nil, append_assoc, get_or-map, length-map}
use Rattle.std.proofs.lemmas.List.Elements.{All-filter, filter_passes}
use Rattle.std.proofs.lemmas.List.Kept.{AllPairs-filter}
use Rattle.std.proofs.lemmas.Map.Made.{keys_of-zip}
use Rattle.std.proofs.lemmas.Slice.Zip.{length-zip}
use Rattle.jm_indexed.specs.Order.{has_value, IsBefore, IsOrder, marks_of}
use Rattle.jm_slots.specs.Items.{items}
use Rattle.jm_slots.specs.Marks.{marked_below}
use Rattle.jm_indexed.specs.Entries.{entries_of, stays_in}
use Rattle.jm_indexed.proofs.Lists.{Contains-filter, filter-map, filter-shorter, marked, marked_each, marked_stays, marks-length}
use Rattle.jm_indexed.proofs.Orders.{value_within}
use Rattle.jm_indexed.proofs.Changed.{IsOrder-moved}

-- an element of a list that has one
some : {X : Type 0} (xs : List X) → 0 < length xs → X
some [] l = absurd (omega (arith, l))
some (x ∷ xs) l = x

module _ {E X : Type 0} (p : E → Bool) (f : E → X) where
  -- what stays by its marks is what passes
  pub marked_filter : (before gone : ℕ) (es : List E) → before + length (filter p es) ≤ gone → marked_below gone (marks_of p before gone es) (map f es) ≡ map f (filter p es)
  marked_filter before gone [] fits = refl
  marked_filter before gone (e ∷ es) fits = by (p e) fits (marked_filter (before + 1) gone es) (marked_filter before gone es)
    where
      by : (b : Bool) → before + length (cond b (e ∷ filter p es) (filter p es)) ≤ gone
          → (before + 1 + length (filter p es) ≤ gone → marked_below gone (marks_of p (before + 1) gone es) (map f es) ≡ map f (filter p es))
          → (before + length (filter p es) ≤ gone → marked_below gone (marks_of p before gone es) (map f es) ≡ map f (filter p es))
          → marked_below gone (cond b (before ∷ marks_of p (before + 1) gone es) (gone ∷ marks_of p before gone es)) (f e ∷ map f es) ≡ map f (cond b (e ∷ filter p es) (filter p es))
      by true fits here there =
          let below : nat_lt before gone ≡ true = grind (arith, nat_tests) in
          ap (λ b. cond b (f e ∷ marked_below gone (marks_of p (before + 1) gone es) (map f es)) (marked_below gone (marks_of p (before + 1) gone es) (map f es))) below
          ∙ ap (λ xs. f e ∷ xs) (here (omega (arith, fits)))
      by false fits here there =
          let past : nat_lt gone gone ≡ false = grind (arith, nat_tests) in
          ap (λ b. cond b (f e ∷ marked_below gone (marks_of p before gone es) (map f es)) (marked_below gone (marks_of p before gone es) (map f es))) past
          ∙ there fits

-- ---- the walk that marks

module _ {E : Type 0} (p : E → Bool) (gone : ℕ) where
  pub mark_stays : (marks all : List ℕ) (before at : ℕ) (es : List E) (e : E) → drop at es ≡ e ∷ drop (at + 1) es → p e ≡ true → marks ++ marks_of p before gone (drop at es) ≡ all → (marks ++ before ∷ []) ++ marks_of p (before + 1) gone (drop (at + 1) es) ≡ all
  mark_stays marks all before at es e next passes so_far =
      append_assoc marks (before ∷ []) (marks_of p (before + 1) gone (drop (at + 1) es))
      ∙ ap (λ b. marks ++ cond b (before ∷ marks_of p (before + 1) gone (drop (at + 1) es)) (gone ∷ marks_of p before gone (drop (at + 1) es))) (sym passes)
      ∙ ap (λ xs. marks ++ marks_of p before gone xs) (sym next) ∙ so_far

  pub mark_goes : (marks all : List ℕ) (before at : ℕ) (es : List E) (e : E) → drop at es ≡ e ∷ drop (at + 1) es → p e ≡ false → marks ++ marks_of p before gone (drop at es) ≡ all → (marks ++ gone ∷ []) ++ marks_of p before gone (drop (at + 1) es) ≡ all
  mark_goes marks all before at es e next fails so_far =
      append_assoc marks (gone ∷ []) (marks_of p before gone (drop (at + 1) es))
      ∙ ap (λ b. marks ++ cond b (before ∷ marks_of p (before + 1) gone (drop (at + 1) es)) (gone ∷ marks_of p before gone (drop (at + 1) es))) (sym fails)
      ∙ ap (λ xs. marks ++ marks_of p before gone xs) (sym next) ∙ so_far

  pub marks_done : (marks all : List ℕ) (before at : ℕ) (es : List E) → length es ≤ at → marks ++ marks_of p before gone (drop at es) ≡ all → marks ≡ all
  marks_done marks all before at es past so_far = sym (append-nil marks) ∙ ap (λ xs. marks ++ marks_of p before gone xs) (sym (drop_of_length-le es past)) ∙ so_far

module _ {K V : Type 0} where
  pub length_zip : (keys : List K) (slots : List (Option V)) → length slots ≡ length keys → length (zip keys slots) ≡ length keys
  length_zip keys slots even = omega (arith, length-zip keys slots, even)

  pub seconds : (keys : List K) (values : List V) → length values ≡ length keys → values_of (zip keys values) ≡ values
  seconds [] [] even = refl
  seconds [] (v ∷ values) even = absurd (omega (arith, even))
  seconds (k ∷ keys) [] even = refl
  seconds (k ∷ keys) (v ∷ values) even = ap (λ vs. v ∷ vs) (seconds keys values (omega (arith, even)))

  module _ (kept : K → V → Bool) where
    -- the slots that stay
    abbrev pub left_of : List K → List (Option V) → List (K × Option V)
    left_of keys slots = filter (stays_in kept) (zip keys slots)

    -- each has a value
    pub left_values : (cells : List (K × Option V)) → length (items (values_of (filter (stays_in kept) cells))) ≡ length (filter (stays_in kept) cells)
    left_values [] = refl
    left_values ((k, None) ∷ cells) = left_values cells
    left_values ((k, Some v) ∷ cells) = by (kept k v) (left_values cells)
      where
        by : (b : Bool) → length (items (values_of (filter (stays_in kept) cells))) ≡ length (filter (stays_in kept) cells)
            → length (items (values_of (cond b ((k, Some v) ∷ filter (stays_in kept) cells) (filter (stays_in kept) cells)))) ≡ length (cond b ((k, Some v) ∷ filter (stays_in kept) cells) (filter (stays_in kept) cells))
        by true h = ap suc h
        by false h = h

    -- the entries that stay are those of the slots that stay
    pub entries-left : (keys : List K) (slots : List (Option V)) → entries_of (keys_of (left_of keys slots)) (map (λ v. Some v) (items (values_of (left_of keys slots)))) ≡ filter (λ e. kept e.0 e.1) (entries_of keys slots)
    entries-left [] slots = refl
    entries-left (k ∷ keys) [] = refl
    entries-left (k ∷ keys) (None ∷ slots) = entries-left keys slots
    entries-left (k ∷ keys) (Some v ∷ slots) = by (kept k v) (entries-left keys slots)
      where
        by : (b : Bool) → entries_of (keys_of (left_of keys slots)) (map (λ v. Some v) (items (values_of (left_of keys slots)))) ≡ filter (λ e. kept e.0 e.1) (entries_of keys slots)
            → entries_of (keys_of (cond b ((k, Some v) ∷ left_of keys slots) (left_of keys slots))) (map (λ v. Some v) (items (values_of (cond b ((k, Some v) ∷ left_of keys slots) (left_of keys slots)))))
            ≡ cond b ((k, v) ∷ filter (λ e. kept e.0 e.1) (entries_of keys slots)) (filter (λ e. kept e.0 e.1) (entries_of keys slots))
        by true h = ap (λ es. (k, v) ∷ es) h
        by false h = h

    -- a slot that stays has a value
    pub stays_value : (keys : List K) (slots : List (Option V)) (i : ℕ) (d : K × Option V) → i < length (zip keys slots) → stays_in kept (get_or (zip keys slots) i d) ≡ true → has_value slots i ≡ true
    stays_value [] slots i d l h = absurd (omega (arith, l))
    stays_value (k ∷ keys) [] i d l h = absurd (omega (arith, l))
    stays_value (k ∷ keys) (None ∷ slots) zero d l h = cc
    stays_value (k ∷ keys) (Some v ∷ slots) zero d l h = refl
    stays_value (k ∷ keys) (v ∷ slots) (suc i) d l h = stays_value keys slots i d (omega (arith, l)) h

    -- marks that were written of keys which are lent
    pub marks_from : (keys lent : List K) (slots : List (Option V)) (marks : List ℕ) → lent ≡ keys → marks ≡ marks_of (stays_in kept) 0 (length lent) (zip lent slots) → marks ≡ marks_of (stays_in kept) 0 (length keys) (zip keys slots)
    marks_from keys lent slots marks same is = is ∙ (λ i. marks_of (stays_in kept) 0 (length (same i)) (zip (same i) slots))

    pub marks_each : (keys lent : List K) (slots : List (Option V)) (marks : List ℕ) → length slots ≡ length keys → lent ≡ keys → marks ≡ marks_of (stays_in kept) 0 (length lent) (zip lent slots) → length marks ≡ length keys
    marks_each keys lent slots marks even same is =
        ap length (marks_from keys lent slots marks same is) ∙ marks-length (stays_in kept) 0 (length keys) (zip keys slots) ∙ length_zip keys slots even

pub filter-all : {X : Type 0} (xs : List X) → filter (λ x. true) xs ≡ xs
filter-all [] = refl
filter-all (x ∷ xs) = ap (λ ys. x ∷ ys) (filter-all xs)

-- the order of the slots that stay, each at the place that its mark says
module _ {K V : Type 0} {cmp : K → K → Ordering} (o : IsTotalOrder cmp) (keys : List K) (slots : List (Option V)) (order : List ℕ) (it : IsOrder cmp keys slots order) (even : length slots ≡ length keys) (kept : K → V → Bool) where
  abbrev cells : List (K × Option V)
  cells = zip keys slots

  abbrev fewer : List (K × Option V)
  fewer = left_of kept keys slots

  abbrev mark : ℕ → ℕ
  mark i = get_or (marks_of (stays_in kept) 0 (length keys) cells) i 0

  abbrev is_left : ℕ → Bool
  is_left i = nat_lt (mark i) (length keys)

  abbrev Left : ℕ → Type 0
  Left i = (i < length keys) × (is_left i ≡ true)

  many : length cells ≡ length keys
  many = length_zip keys slots even

  few : 0 + length fewer ≤ length keys
  few = omega (arith, filter-shorter (stays_in kept) cells, many)

  left_is : (i : ℕ) → Left i → (mark i < length fewer) × ((d : K × Option V) → get_or fewer (mark i) d ≡ get_or cells i d)
  left_is i h =
      let below : mark i < length keys = let t = h.1 in grind (arith, nat_tests) in
      let m = marked (stays_in kept) 0 (length keys) cells few i 0 (let l = h.0 in omega (arith, l, many)) below in
      let same : mark i ≡ mark i - 0 = omega arith in
      (omega (arith, m.1), λ d. ap (λ n. get_or fewer n d) same ∙ m.2 d)

  left_each : (i : ℕ) → has_value (map (λ v. Some v) (items (values_of fewer))) i ≡ true → (j : ℕ) × Contains (filter is_left order) j × (mark j ≡ i)
  left_each i h =
      let l = value_within (map (λ v. Some v) (items (values_of fewer))) i h in
      let inside : i < length fewer = omega (arith, l, length-map (items (values_of fewer)) (λ v. Some v), left_values kept cells) in
      let m = marked_each (stays_in kept) 0 (length keys) cells i inside in
      let is : mark m.0 ≡ i = m.2 ∙ omega arith in
      let below : mark m.0 < length keys = omega (arith, is, inside, few) in
      let test : is_left m.0 ≡ true = grind (arith, nat_tests) in
      let d = some cells (let n = m.1 in omega (arith, n)) in
      let stays = marked_stays (stays_in kept) 0 (length keys) cells few m.0 0 d m.1 below in
      let has = stays_value kept keys slots m.0 d m.1 stays in
      (m.0, Contains-filter is_left order m.0 (it.whole m.0 has) test, is)

  left_same : (i : ℕ) (d : K) → Left i → get_or (keys_of fewer) (mark i) d ≡ get_or keys i d
  left_same i d h =
      let at = left_is i h in
      let l = at.0 in
      let e = some cells (let n = h.0 in omega (arith, n, many)) in
      get_or-map (λ c. c.0) fewer (mark i) e d l ∙ ap (λ c. c.0) (at.1 e) ∙ sym (get_or-map (λ c. c.0) cells i e d (let n = h.0 in omega (arith, n, many))) ∙ ap (λ ks. get_or ks i d) (keys_of-zip keys slots even)

  pub IsOrder-left : IsOrder cmp (keys_of fewer) (map (λ v. Some v) (items (values_of fewer))) (filter (λ n. nat_lt n (length keys)) (map mark order))
  IsOrder-left =
      subst (IsOrder cmp (keys_of fewer) (map (λ v. Some v) (items (values_of fewer)))) (sym (filter-map mark (λ n. nat_lt n (length keys)) order))
      (IsOrder-moved o keys slots order it (keys_of fewer) (map (λ v. Some v) (items (values_of fewer))) (filter is_left order) Left mark
      (λ k d m. (All-filter is_left (λ i. i < length keys) order it.rises.within k d m, filter_passes is_left order k d m))
      (AllPairs-filter (IsBefore cmp keys) is_left order it.rises.rising)
      (λ i h. let l = (left_is i h).0 in omega (arith, l, length-map fewer (λ c. c.0))) left_same left_each)

  -- what has to be shown of the columns once the marked slots stay
  pub record IsKept (keys' : List K) (slots' : List (Option V)) (order' : List ℕ) : Type 0 where
    pub ordered : IsOrder cmp keys' slots' order'
    pub as_many : length slots' ≡ length keys'
    pub entries : entries_of keys' slots' ≡ filter (λ e. kept e.0 e.1) (entries_of keys slots)
    pub fewer : length keys' ≤ length keys

  module _ (marks : List ℕ) (gone : ℕ) (marks_is : marks ≡ marks_of (stays_in kept) 0 (length keys) cells) (gone_is : gone ≡ length keys) where
    pub marks_many : length marks ≡ length keys
    marks_many = ap length marks_is ∙ marks-length (stays_in kept) 0 (length keys) cells ∙ many

    pub are_kept : (keys' : List K) (slots' : List (Option V)) (order' : List ℕ) → keys' ≡ marked_below gone marks keys → slots' ≡ map (λ v. Some v) (items (marked_below gone marks slots))
        → order' ≡ filter (λ n. nat_lt n (length marks)) (map (λ n. get_or marks n 0) order) → IsKept keys' slots' order'
    are_kept keys' slots' order' keys_is slots_is order_is =
        let to_keys : keys' ≡ keys_of fewer = keys_is ∙ (λ i. marked_below (gone_is i) (marks_is i) (sym (keys_of-zip keys slots even) i)) ∙ marked_filter (stays_in kept) (λ c. c.0) 0 (length keys) cells few in
        let to_values : marked_below gone marks slots ≡ values_of fewer = (λ i. marked_below (gone_is i) (marks_is i) (sym (seconds keys slots even) i)) ∙ marked_filter (stays_in kept) (λ c. c.1) 0 (length keys) cells few in
        let to_slots : slots' ≡ map (λ v. Some v) (items (values_of fewer)) = slots_is ∙ ap (λ vs. map (λ v. Some v) (items vs)) to_values in
        let to_order : order' ≡ filter (λ n. nat_lt n (length keys)) (map mark order) = order_is ∙ (λ i. filter (λ n. nat_lt n (marks_many i)) (map (λ n. get_or (marks_is i) n 0) order)) in
        record {
          ordered = subst (λ ks. IsOrder cmp ks slots' order') (sym to_keys) (subst (λ vs. IsOrder cmp (keys_of fewer) vs order') (sym to_slots) (subst (IsOrder cmp (keys_of fewer) (map (λ v. Some v) (items (values_of fewer)))) (sym to_order) IsOrder-left));
          as_many = ap length to_slots ∙ length-map (items (values_of fewer)) (λ v. Some v) ∙ left_values kept cells ∙ sym (length-map fewer (λ c. c.0)) ∙ ap length (sym to_keys);
          entries = (λ i. entries_of (to_keys i) (to_slots i)) ∙ entries-left kept keys slots;
          fewer = omega (arith, ap length to_keys, length-map fewer (λ c. c.0), few);
        }
