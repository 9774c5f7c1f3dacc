-- What a look-up finds in the same rows in another order.
use Rattle.std.proofs.Common.{◌≡◌, inl, inr, Bool, true, false, cond, List, [], ◌∷◌, map, find, Option, Some, None, option_map, refl, sym, ap, ◌∙◌, IsPermutation, Ordering, Less, Equal}
use Rattle.std.specs.List.Sorted.{IsStrictlySortedBy}
use Rattle.std.proofs.lemmas.Bool.{cases_Bool}
use Rattle.std.proofs.lemmas.List.Sorted.{Contains-permutation, IsPermutation-sym}
use Rattle.sqlite_rules.specs.Lists.{Has}
use Rattle.sqlite_rules.proofs.ListLemmas.{all_has, contains_had, has_contained, has_found}

module _ {X : Type 0} where
  -- what is in the rows is in the same rows in another order
  pub has_moved : (xs ys : List X) (x : X) → IsPermutation xs ys → Has xs x → Has ys x
  has_moved xs ys x same h = has_contained ys x (Contains-permutation xs ys x same (contains_had xs x h))

  -- where something passes, something is found
  pub found_some : (p : X → Bool) (xs : List X) (x : X) → Has xs x → p x ≡ true → (y : X) × (find p xs ≡ Some y)
  found_some p [] x h passes = absurd h
  found_some p (y ∷ xs) x (inl same) passes = (y, ap (λ b. cond b (Some y) (find p xs)) (ap p (sym same) ∙ passes))
  found_some p (y ∷ xs) x (inr later) passes = let found = found_some p xs x later passes in elim (cases_Bool (p y)) [
    | inl here ↦ (y, ap (λ b. cond b (Some y) (find p xs)) here)
    | inr not_here ↦ (found.0, ap (λ b. cond b (Some y) (find p xs)) not_here ∙ found.1)
  ]

  -- a look-up that no more than one element answers finds the same in another order
  pub find_moved : (p : X → Bool) (xs ys : List X) → IsPermutation xs ys → ((a b : X) → Has ys a → Has ys b → p a ≡ true → p b ≡ true → a ≡ b) → find p ys ≡ find p xs
  find_moved p xs ys same one = go (find p xs) (find p ys) refl refl
    where
      go : (a b : Option X) → find p xs ≡ a → find p ys ≡ b → b ≡ a
      go None None e f = refl
      go None (Some y) e f =
          let there = has_found p ys y f in
          let found = found_some p xs y (has_moved ys xs y (IsPermutation-sym xs ys same) there.0) there.1 in
          absurd (let no = sym e ∙ found.1 in cc)
      go (Some x) None e f =
          let there = has_found p xs x e in
          let found = found_some p ys x (has_moved xs ys x same there.0) there.1 in
          absurd (let no = sym f ∙ found.1 in cc)
      go (Some x) (Some y) e f =
          let left = has_found p xs x e in
          let right = has_found p ys y f in
          ap Some (one y x right.0 (has_moved xs ys x same left.0) right.1 left.1)

  -- of elements that rise no two are alike
  pub one_alike : (cmp : X → X → Ordering) (xs : List X) → IsStrictlySortedBy cmp xs → (a b : X) → Has xs a → Has xs b → cmp a b ≡ Equal → cmp b a ≡ Equal → a ≡ b
  unfolding IsStrictlySortedBy
  one_alike cmp [] rise a b h k e f = absurd h
  one_alike cmp (x ∷ xs) rise a b (inl s) (inl t) e f = s ∙ sym t
  one_alike cmp (x ∷ xs) rise a b (inl s) (inr k) e f = absurd (let less = all_has (λ y. cmp x y ≡ Less) xs b rise.0 k in let no = sym less ∙ ap (λ y. cmp y b) (sym s) ∙ e in cc)
  one_alike cmp (x ∷ xs) rise a b (inr h) (inl t) e f = absurd (let less = all_has (λ y. cmp x y ≡ Less) xs a rise.0 h in let no = sym less ∙ ap (λ y. cmp y a) (sym t) ∙ f in cc)
  one_alike cmp (x ∷ xs) rise a b (inr h) (inr k) e f = one_alike cmp xs rise.1 a b h k e f

-- rows are shown, and the look-up sees the same in what is shown
pub find_shown : {X Y : Type 0} (p : Y → Bool) (q : X → Bool) (f : X → Y) → ((x : X) → p (f x) ≡ q x) → (xs : List X) → find p (map f xs) ≡ option_map f (find q xs)
find_shown p q f same [] = refl
find_shown p q f same (x ∷ xs) =
    ap (λ b. cond b (Some (f x)) (find p (map f xs))) (same x)
    ∙ elim (q x) as (λ b. cond b (Some (f x)) (find p (map f xs)) ≡ option_map f (cond b (Some x) (find q xs))) [ true ↦ refl | false ↦ find_shown p q f same xs ]
