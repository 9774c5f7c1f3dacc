-- Lists in order.
use Rattle.std.proofs.Common.{◌≡◌, ◌+◌, false, List, [], ◌∷◌, map, get_or, inl, inr, refl, sym, ap, ◌∙◌, arith, true≢false, Ordering, Less, Equal, Greater, IsPermutation, IsSorted}
use Rattle.std.specs.Cmp.{IsTotalOrder}
use Rattle.std.specs.Ordering.{eq_by_cmp, is_eq, is_lt, ordering_reverse}
use Rattle.std.specs.List.{AllByRecursion, IsDistinct}
use Rattle.std.specs.List.Sorted.{IsStrictlySortedBy}
use Rattle.std.proofs.lemmas.Map.Keys.{IsDistinct-IsPermutation, apart_from_distinct, sorted_from_all_adjacent}
use Rattle.sqlite_trees.specs.Tree.{IsAscending}
use Rattle.sqlite_trees.proofs.ListLemmas.{all-map, all_both}
use Rattle.sqlite_rules.specs.Lists.{Has}
use Rattle.sqlite_rules.proofs.ListLemmas.{all_has, all_from}

turned : (o : Ordering) → is_eq (ordering_reverse o) ≡ is_eq o
turned Less = refl
turned Equal = refl
turned Greater = refl

up : (o : Ordering) → is_lt o ≡ false → is_eq (ordering_reverse o) ≡ false → ordering_reverse o ≡ Less
up Less p q = absurd (true≢false p)
up Equal p q = absurd (true≢false q)
up Greater p q = refl

module _ {X : Type 0} {R : X → X → Ordering} (total : IsTotalOrder R) where
  flips : (x y : X) → eq_by_cmp R x y ≡ eq_by_cmp R y x
  flips x y = ap is_eq (total.antisymm x y) ∙ turned (R y x)

  -- what is sorted and differs rises
  strictly : (xs : List X) (d : X) → IsSorted R xs → IsDistinct (eq_by_cmp R) xs → IsStrictlySortedBy R xs
  strictly xs d sorted apart = sorted_from_all_adjacent total xs d (λ k l.
      let back = total.antisymm (get_or xs k d) (get_or xs (k + 1) d) in
      let differs = apart_from_distinct (eq_by_cmp R) xs k (k + 1) d apart (omega arith) l in
      back ∙ up (R (get_or xs (k + 1) d) (get_or xs k d)) (sorted k d (omega arith) l) (ap is_eq (sym back) ∙ differs))

  any_strictly : (xs : List X) → IsSorted R xs → IsDistinct (eq_by_cmp R) xs → IsStrictlySortedBy R xs
  unfolding IsStrictlySortedBy
  any_strictly [] sorted apart = tt
  any_strictly (x ∷ xs) sorted apart = strictly (x ∷ xs) x sorted apart

  -- so does a sorted order of elements that differ
  pub rises : (xs ys : List X) → IsDistinct (eq_by_cmp R) xs → IsPermutation xs ys → IsSorted R ys → IsStrictlySortedBy R ys
  rises xs ys apart same sorted = any_strictly ys sorted (IsDistinct-IsPermutation (eq_by_cmp R) flips xs ys same apart)

  -- elements that come one above the other differ, where they do so in pairs
  pub distinct : {A : Type 0} (U : A → A → Type 0) (f : A → X) (xs : List A) → ((a b : A) → Has xs a → Has xs b → U a b → eq_by_cmp R (f a) (f b) ≡ false) → IsAscending U xs → IsDistinct (eq_by_cmp R) (map f xs)
  unfolding IsDistinct
  distinct U f [] rule rise = tt
  distinct U f (x ∷ xs) rule rise = (
    all-map (λ y. eq_by_cmp R (f x) y ≡ false) f xs (all_from (λ b. eq_by_cmp R (f x) (f b) ≡ false) xs (λ b h. rule x b (inl refl) (inr h) (all_has (U x) xs b rise.0 h))),
    distinct U f xs (λ a b h k. rule a b (inr h) (inr k)) rise.1,
  )

  -- what rises by one order does by another that follows it
  pub rises_by : {Y : Type 0} (C : Y → Y → Ordering) (f : X → Y) (P : X → Type 0) → ((a b : X) → P a → P b → R a b ≡ Less → C (f a) (f b) ≡ Less) → (xs : List X) → AllByRecursion P xs → IsStrictlySortedBy R xs → IsStrictlySortedBy C (map f xs)
  unfolding IsStrictlySortedBy
  rises_by C f P rule [] all rise = tt
  rises_by C f P rule (x ∷ xs) all rise = (
    all-map (λ y. C (f x) y ≡ Less) f xs (all_both P (λ y. R x y ≡ Less) (λ y. C (f x) (f y) ≡ Less) (λ y p less. rule x y all.0 p less) xs all.1 rise.0),
    rises_by C f P rule xs all.1 rise.1,
  )
