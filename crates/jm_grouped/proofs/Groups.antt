-- Where equal items stand.
use Rattle.std.proofs.Common.{◌≡◌, ◌+◌, ◌-◌, ◌<◌, ◌≤◌, ℕ, Bool, true, false, cond, List, [], ◌∷◌, length, get_or, Option, arith, refl, sym, ◌∙◌, ap, subst, suc, zero}
use Rattle.std.specs.declared.cmp.Ordering.{Ordering}
use Rattle.std.specs.List.{All, AllPairs, Contains, filter}
use Rattle.std.proofs.lemmas.List.{get_or-map, length-map}
use Rattle.std.proofs.lemmas.List.Elements.{All-filter, All-map, filter_passes}
use Rattle.std.proofs.lemmas.List.Kept.{AllPairs-cons, AllPairs-filter}
use Rattle.jm_slots.specs.Items.{items_before}
use Rattle.jm_grouped.specs.Grouped.{indexes_from, indexes_of, items_of}
use Rattle.jm_grouped.specs.Order.{IsGroup, IsOrder, indexes_in, is_taken}
use Rattle.jm_grouped.proofs.Taken.{Contains-indexes, IsSlotOf, index_inside, item_is, item_there, rises, slot_at}

-- ---- numbers that rise

-- the first of numbers that rise is the least
least : (x y : ℕ) (ys : List ℕ) → AllPairs (λ i j. i < j) (y ∷ ys) → Contains (y ∷ ys) x → y ≤ x
least x y ys rise (zero, l, is) = omega (arith, is)
least x y ys rise (suc k, l, is) = let up = rise 0 (suc k) x (omega arith) l in omega (arith, up, is)

tail_rises : (x : ℕ) (xs : List ℕ) → AllPairs (λ i j. i < j) (x ∷ xs) → AllPairs (λ i j. i < j) xs
tail_rises x xs rise i j d l m = rise (suc i) (suc j) d (omega (arith, l)) (omega (arith, m))

-- a later member stands in the tail
behind : (x y : ℕ) (ys : List ℕ) → x < y → Contains (x ∷ ys) y → Contains ys y
behind x y ys l (zero, m, is) = absurd (omega (arith, l, is))
behind x y ys l (suc k, m, is) = (k, omega (arith, m), is)

-- two lists that rise and have the same members are one
pub same_members : (xs ys : List ℕ) → AllPairs (λ i j. i < j) xs → AllPairs (λ i j. i < j) ys → All (Contains ys) xs → All (Contains xs) ys → xs ≡ ys
same_members [] [] a b f h = refl
same_members [] (y ∷ ys) a b f h = let k = h 0 y (omega arith) in absurd (omega (arith, k.1))
same_members (x ∷ xs) [] a b f h = let k = f 0 x (omega arith) in absurd (omega (arith, k.1))
same_members (x ∷ xs) (y ∷ ys) a b f h =
    let same : x ≡ y = omega (arith, least x y ys b (f 0 x (omega arith)), least y x xs a (h 0 y (omega arith))) in
    let rest = same_members xs ys (tail_rises x xs a) (tail_rises y ys b)
    (λ k d l.
    let there = f (suc k) d (omega (arith, l)) in
    let up = a 0 (suc k) d (omega arith) (omega (arith, l)) in
    behind y (get_or xs k d) ys (omega (arith, up, same)) there)
    (λ k d l.
    let there = h (suc k) d (omega (arith, l)) in
    let up = b 0 (suc k) d (omega arith) (omega (arith, l)) in
    behind x (get_or ys k d) xs (omega (arith, up, same)) there) in
    λ i. same i ∷ rest i

-- ---- the indexes of equal items

module _ {T : Type 0} (eq : T → T → Bool) (value : T) where
  indexes_above : (first : ℕ) (xs : List T) → All (λ n. first ≤ n) (indexes_from eq first xs value)
  indexes_above first [] = λ k d l. absurd (omega (arith, l))
  indexes_above first (x ∷ xs) = by (eq x value) (indexes_above (first + 1) xs)
    where
      by : (b : Bool) → All (λ n. first + 1 ≤ n) (indexes_from eq (first + 1) xs value) → All (λ n. first ≤ n) (cond b (first ∷ indexes_from eq (first + 1) xs value) (indexes_from eq (first + 1) xs value))
      by true h zero d l = omega arith
      by true h (suc k) d l = omega (arith, h k d (omega (arith, l)))
      by false h k d l = omega (arith, h k d l)

  pub indexes_rise : (first : ℕ) (xs : List T) → AllPairs (λ i j. i < j) (indexes_from eq first xs value)
  indexes_rise first [] = λ i j d l m. absurd (omega (arith, m))
  indexes_rise first (x ∷ xs) = by (eq x value) (indexes_rise (first + 1) xs)
    where
      by : (b : Bool) → AllPairs (λ i j. i < j) (indexes_from eq (first + 1) xs value) → AllPairs (λ i j. i < j) (cond b (first ∷ indexes_from eq (first + 1) xs value) (indexes_from eq (first + 1) xs value))
      by true h = AllPairs-cons (λ i j. i < j) first (indexes_from eq (first + 1) xs value) (λ k d l. omega (arith, indexes_above (first + 1) xs k d l)) h
      by false h = h

  -- the number is the place, counted from the first, of an item that is equal to the value
  abbrev EqualAt : ℕ → List T → ℕ → Type 0
  EqualAt first xs n = (n < first + length xs) × (eq (get_or xs (n - first) value) value ≡ true)

  -- each is the index of an item that is equal to the value
  pub indexes_equal : (first : ℕ) (xs : List T) → All (EqualAt first xs) (indexes_from eq first xs value)
  indexes_equal first [] = λ k d l. absurd (omega (arith, l))
  indexes_equal first (x ∷ xs) = by (eq x value) refl (indexes_above (first + 1) xs) (indexes_equal (first + 1) xs)
    where
      more : (n : ℕ) → first + 1 ≤ n → EqualAt (first + 1) xs n → EqualAt first (x ∷ xs) n
      more n l h =
          let one : n - first ≡ suc (n - (first + 1)) = omega (arith, l) in
          let w = h.0 in
          (omega (arith, w), ap (λ k. eq (get_or (x ∷ xs) k value) value) one ∙ h.1)

      by : (b : Bool) → eq x value ≡ b → All (λ n. first + 1 ≤ n) (indexes_from eq (first + 1) xs value) → All (EqualAt (first + 1) xs) (indexes_from eq (first + 1) xs value) → All (EqualAt first (x ∷ xs)) (cond b (first ∷ indexes_from eq (first + 1) xs value) (indexes_from eq (first + 1) xs value))
      by true e above h zero d l = let none : first - first ≡ 0 = omega arith in (omega arith, ap (λ k. eq (get_or (x ∷ xs) k value) value) none ∙ e)
      by true e above h (suc k) d l = more _ (above k d (omega (arith, l))) (h k d (omega (arith, l)))
      by false e above h k d l = more _ (above k d l) (h k d l)

  -- and each such index is there
  pub indexes_whole : (first : ℕ) (xs : List T) (i : ℕ) → i < length xs → eq (get_or xs i value) value ≡ true → Contains (indexes_from eq first xs value) (first + i)
  indexes_whole first [] i l hit = absurd (omega (arith, l))
  indexes_whole first (x ∷ xs) zero l hit =
      let none : first ≡ first + 0 = omega arith in
      subst (λ b. Contains (cond b (first ∷ indexes_from eq (first + 1) xs value) (indexes_from eq (first + 1) xs value)) (first + 0)) (sym hit) (0, omega arith, none)
  indexes_whole first (x ∷ xs) (suc i) l hit = by (eq x value) (indexes_whole (first + 1) xs i (omega (arith, l)) hit)
    where
      one : first + 1 + i ≡ first + suc i
      one = omega arith

      by : (b : Bool) → Contains (indexes_from eq (first + 1) xs value) (first + 1 + i) → Contains (cond b (first ∷ indexes_from eq (first + 1) xs value) (indexes_from eq (first + 1) xs value)) (first + suc i)
      by true h = subst (Contains (first ∷ indexes_from eq (first + 1) xs value)) one (suc h.0, omega (arith, h.1), h.2)
      by false h = subst (Contains (indexes_from eq (first + 1) xs value)) one h

  -- all are indexes of items
  pub indexes_within : (xs : List T) → All (λ n. n < length xs) (indexes_of eq xs value)
  indexes_within xs k d l = let h = (indexes_equal 0 xs k d l).0 in omega (arith, h)

-- ---- the slots of equal items

module _ {T V : Type 0} {cmp : T → T → Ordering} (eq : T → T → Bool) (xs : List T) (slots : List (Option V)) (order : List ℕ) (even : length slots ≡ length xs) (it : IsOrder cmp xs slots order) (value : T) (group : List ℕ) (is : IsGroup eq xs order value group) where
  abbrev kept : List ℕ
  kept = filter (is_taken slots) group

  taken : All (λ s. is_taken slots s ≡ true) kept
  taken = filter_passes (is_taken slots) group

  abbrev Equal_at : ℕ → Type 0
  Equal_at i = (i < length xs) × (eq (get_or xs i value) value ≡ true)

  equal : All Equal_at kept
  equal = All-filter (is_taken slots) Equal_at group is.equal

  rise : AllPairs (λ i j. i < j) (indexes_in slots group)
  rise i j d l m =
      let m' : j < length kept = omega (arith, m, length-map kept (items_before slots)) in
      let l' : i < length kept = omega (arith, l, m') in
      let up = AllPairs-filter (λ i j. i < j) (is_taken slots) group is.rising i j d l m' in
      let more = rises slots (get_or kept i d) (get_or kept j d) (taken i d l') (taken j d m') up in
      omega (arith, more, get_or-map (items_before slots) kept i d d l', get_or-map (items_before slots) kept j d d m')

  -- the index of each of those slots is that of an item that is equal to the value
  there : All (Contains (indexes_of eq (items_of xs slots) value)) (indexes_in slots group)
  there = All-map (Contains (indexes_of eq (items_of xs slots) value)) (items_before slots) kept (λ k d l.
      let s = get_or kept k d in
      let e = equal k d l in
      let hit : eq (get_or (items_of xs slots) (items_before slots s) value) value ≡ true = ap (λ x. eq x value) (item_there xs slots s value e.0 (taken k d l)) ∙ e.1 in
      let from_none : 0 + items_before slots s ≡ items_before slots s = omega arith in
      subst (Contains (indexes_of eq (items_of xs slots) value)) from_none (indexes_whole eq value 0 (items_of xs slots) (items_before slots s) (index_inside xs slots s even (taken k d l)) hit))

  -- and each such index is that of one of those slots
  back_at : (n s : ℕ) → IsSlotOf xs slots n s → eq (get_or (items_of xs slots) n value) value ≡ true → Contains (indexes_in slots group) n
  back_at n s t hit =
      Contains-indexes slots group s n (is.whole s (it.whole s t.taken) (ap (λ x. eq x value) (item_is xs slots s n value t) ∙ hit)) t.taken t.index_is

  back_from : (n : ℕ) → EqualAt eq value 0 (items_of xs slots) n → Contains (indexes_in slots group) n
  back_from n e =
      let from_none : n ≡ n - 0 = omega arith in
      let w = e.0 in
      let found = slot_at xs slots n (omega (arith, w)) in
      back_at n found.0 found.1 (ap (λ m. eq (get_or (items_of xs slots) m value) value) from_none ∙ e.1)

  back : All (Contains (indexes_in slots group)) (indexes_of eq (items_of xs slots) value)
  back k d l = back_from (get_or (indexes_of eq (items_of xs slots) value) k d) (indexes_equal eq value 0 (items_of xs slots) k d l)

  -- so those are the indexes of all items that are equal to the value
  pub indexes_are : indexes_in slots group ≡ indexes_of eq (items_of xs slots) value
  indexes_are = same_members (indexes_in slots group) (indexes_of eq (items_of xs slots) value) rise (indexes_rise eq value 0 (items_of xs slots)) there back
