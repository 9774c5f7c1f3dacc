-- The numbers of what is open, as something is added or closes.
use Rattle.std.proofs.Common.{◌≡◌, ◌<◌, ◌∙◌, ℕ, zero, suc, length, get_or, Bool, true, false, cond, List, [], ◌∷◌, ◌++◌, Option, None, Some, refl, sym, ap, subst, arith}
use Rattle.std.specs.Prelude.{◌||◌, map, filter, find, is_some, position, slice_get}
use Rattle.std.specs.List.{AllByRecursion, IsDistinct, list_any, remove}
use Rattle.std.specs.Map.{values_of}
use Rattle.indexmap.specs.IndexMap.{set_value_at}
use Rattle.jm_indexed.proofs.Lists.{none_from_position, position_none}
use Rattle.jm_session.specs.Opened.{open_numbers}

-- a change that was made before changes nothing where another does so
pub map_twice : {V : Type 0} (f g : V → V) → ((x : V) → f (g x) ≡ f x) → (xs : List V) → map f (map g xs) ≡ map f xs
map_twice f g again [] = refl
map_twice f g again (x ∷ xs) = λ i. again x i ∷ map_twice f g again xs i

-- each element, by its index
all_from_each : {K : Type 0} (P : K → Type 0) (ks : List K) → ((i : ℕ) (d : K) → i < length ks → P (get_or ks i d)) → AllByRecursion P ks
all_from_each P [] each = tt
all_from_each P (k ∷ ks) each = (each 0 k (omega arith), all_from_each P ks (λ i d less. each (suc i) d (omega (arith, less))))

each_from_all : {K : Type 0} (P : K → Type 0) (ks : List K) → AllByRecursion P ks → (i : ℕ) (d : K) → i < length ks → P (get_or ks i d)
each_from_all P [] all i d less = absurd (omega (arith, less))
each_from_all P (k ∷ ks) all zero d less = all.0
each_from_all P (k ∷ ks) all (suc i) d less = each_from_all P ks all.1 i d (omega (arith, less))

module _ {K V : Type 0} (number : V → K) (is_open : V → Bool) where
  abbrev numbers : List V → List K
  numbers xs = open_numbers number is_open xs

  -- the numbers with that of one more, where it is open
  abbrev with_first : V → List K → List K
  with_first x ks = cond (is_open x) (number x ∷ ks) ks

  numbers_first : (x : V) (xs : List V) → numbers (x ∷ xs) ≡ with_first x (numbers xs)
  numbers_first x xs = go (is_open x)
    where
      go : (b : Bool) → map number (cond b (x ∷ filter is_open xs) (filter is_open xs)) ≡ cond b (number x ∷ numbers xs) (numbers xs)
      go true = refl
      go false = refl

  open_first : (x : V) (xs : List V) → is_open x ≡ true → numbers (x ∷ xs) ≡ number x ∷ numbers xs
  open_first x xs still = numbers_first x xs ∙ ap (λ b. cond b (number x ∷ numbers xs) (numbers xs)) still

  closed_first : (x : V) (xs : List V) → is_open x ≡ false → numbers (x ∷ xs) ≡ numbers xs
  closed_first x xs closed = numbers_first x xs ∙ ap (λ b. cond b (number x ∷ numbers xs) (numbers xs)) closed

  -- one more stands last
  pub numbers_more : (xs : List V) (x : V) → is_open x ≡ true → numbers (xs ++ x ∷ []) ≡ numbers xs ++ number x ∷ []
  numbers_more [] x still = open_first x [] still
  numbers_more (y ∷ ys) x still =
      numbers_first y (ys ++ x ∷ []) ∙ ap (with_first y) (numbers_more ys x still) ∙ go (is_open y) ∙ ap (λ ks. ks ++ number x ∷ []) (sym (numbers_first y ys))
    where
      go : (b : Bool) → cond b (number y ∷ (numbers ys ++ number x ∷ [])) (numbers ys ++ number x ∷ []) ≡ cond b (number y ∷ numbers ys) (numbers ys) ++ number x ∷ []
      go true = refl
      go false = refl

  -- a value that is marked, and stays open or closed under its number, changes none
  pub numbers_kept : {J : Type 0} (entries : List (J × V)) (at : ℕ) (v w : V) → slice_get (values_of entries) at ≡ Some v → is_open w ≡ is_open v → number w ≡ number v →
      numbers (values_of (set_value_at entries at w)) ≡ numbers (values_of entries)
  numbers_kept [] at v w there still same = cc
  numbers_kept (e ∷ entries) zero v w there still same =
      let is : v ≡ e.1 = cc in
      let ks = numbers (values_of entries) in
      numbers_first w (values_of entries)
      ∙ (λ i. cond (still i) (same i ∷ ks) ks)
      ∙ ap (λ x. with_first x ks) is
      ∙ sym (numbers_first e.1 (values_of entries))
  numbers_kept (e ∷ entries) (suc at) v w there still same =
      numbers_first e.1 (values_of (set_value_at entries at w))
      ∙ ap (with_first e.1) (numbers_kept entries at v w there still same)
      ∙ sym (numbers_first e.1 (values_of entries))

  -- where a change leaves what is closed, and each whose number does not pass, it leaves all once no open number passes
  pub all_left : (passes : K → Bool) (f : V → V) → ((x : V) → is_open x ≡ false → f x ≡ x) → ((x : V) → passes (number x) ≡ false → f x ≡ x) →
      (xs : List V) → list_any passes (numbers xs) ≡ false → map f xs ≡ xs
  all_left passes f closed other [] none = refl
  all_left passes f closed other (x ∷ xs) none = by (is_open x) refl (all_left passes f closed other xs)
    where
      neither : (a b : Bool) → (a || b) ≡ false → (a ≡ false) × (b ≡ false)
      neither true b h = cc
      neither false b h = (refl, h)

      by : (b : Bool) → is_open x ≡ b → (list_any passes (numbers xs) ≡ false → map f xs ≡ xs) → map f (x ∷ xs) ≡ x ∷ xs
      by true still rest =
          let parts = neither (passes (number x)) (list_any passes (numbers xs)) (ap (list_any passes) (sym (open_first x xs still)) ∙ none) in
          λ i. other x parts.0 i ∷ rest parts.1 i
      by false shut rest =
          let later : list_any passes (numbers xs) ≡ false = ap (list_any passes) (sym (closed_first x xs shut)) ∙ none in
          λ i. closed x shut i ∷ rest later i

  module _ (eq : K → K → Bool) where
    -- a number of nobody is not among those of the open ones
    unmade : (k : K) (xs : List V) → is_some (find (λ x. eq (number x) k) xs) ≡ false → AllByRecursion (λ y. eq y k ≡ false) (numbers xs)
    unmade k [] none = tt
    unmade k (x ∷ xs) none = by (eq (number x) k) refl none (unmade k xs)
      where
        by : (b : Bool) → eq (number x) k ≡ b → is_some (cond b (Some x) (find (λ y. eq (number y) k) xs)) ≡ false →
            (is_some (find (λ y. eq (number y) k) xs) ≡ false → AllByRecursion (λ y. eq y k ≡ false) (numbers xs)) → AllByRecursion (λ y. eq y k ≡ false) (numbers (x ∷ xs))
        by true this none later = cc
        by false other none later = subst (AllByRecursion (λ y. eq y k ≡ false)) (sym (numbers_first x xs)) (go (is_open x) (later none))
          where
            go : (b : Bool) → AllByRecursion (λ y. eq y k ≡ false) (numbers xs) → AllByRecursion (λ y. eq y k ≡ false) (cond b (number x ∷ numbers xs) (numbers xs))
            go true rest = (other, rest)
            go false rest = rest

    pub absent : (k : K) (xs : List V) → is_some (find (λ x. eq (number x) k) xs) ≡ false → position (λ y. eq y k) (numbers xs) ≡ None
    absent k xs none = position_none (λ y. eq y k) (numbers xs) (each_from_all (λ y. eq y k ≡ false) (numbers xs) (unmade k xs none))

    module _ (g : V → V) (closes : (x : V) → is_open (g x) ≡ false) (k : K) where
      -- a value, closed where it has the number
      abbrev pub closed_if : V → V
      closed_if x = cond (eq (number x) k) (g x) x

      first_other : (x : V) (ks : List K) → eq (number x) k ≡ false → with_first (closed_if x) ks ≡ with_first x ks
      first_other x ks other = ap (λ b. with_first (cond b (g x) x) ks) other

      first_own : (x : V) (ks : List K) → eq (number x) k ≡ true → with_first (closed_if x) ks ≡ ks
      first_own x ks own = ap (λ b. with_first (cond b (g x) x) ks) own ∙ ap (λ b. cond b (number (g x) ∷ ks) ks) (closes x)

      first_closed : (x : V) (ks : List K) → is_open x ≡ false → with_first (closed_if x) ks ≡ ks
      first_closed x ks closed = by (eq (number x) k) refl
        where
          by : (b : Bool) → eq (number x) k ≡ b → with_first (closed_if x) ks ≡ ks
          by true own = first_own x ks own
          by false other = first_other x ks other ∙ ap (λ b. cond b (number x ∷ ks) ks) closed

      -- where no open one has the number, the numbers stay
      stay : (xs : List V) → AllByRecursion (λ y. eq y k ≡ false) (numbers xs) → numbers (map closed_if xs) ≡ numbers xs
      stay [] none = refl
      stay (x ∷ xs) none = by (is_open x) refl (stay xs)
        where
          by : (b : Bool) → is_open x ≡ b → (AllByRecursion (λ y. eq y k ≡ false) (numbers xs) → numbers (map closed_if xs) ≡ numbers xs) → numbers (map closed_if (x ∷ xs)) ≡ numbers (x ∷ xs)
          by true still rest =
              let parts = subst (AllByRecursion (λ y. eq y k ≡ false)) (open_first x xs still) none in
              numbers_first (closed_if x) (map closed_if xs) ∙ ap (with_first (closed_if x)) (rest parts.1) ∙ first_other x (numbers xs) parts.0 ∙ sym (numbers_first x xs)
          by false closed rest =
              numbers_first (closed_if x) (map closed_if xs)
              ∙ first_closed x (numbers (map closed_if xs)) closed
              ∙ rest (subst (AllByRecursion (λ y. eq y k ≡ false)) (closed_first x xs closed) none)
              ∙ sym (closed_first x xs closed)

      pub closed_nowhere : (xs : List V) → position (λ y. eq y k) (numbers xs) ≡ None → numbers (map closed_if xs) ≡ numbers xs
      closed_nowhere xs none = stay xs (all_from_each (λ y. eq y k ≡ false) (numbers xs) (none_from_position (λ y. eq y k) (numbers xs) none))

      module _ (reflexive : (a : K) → eq a a ≡ true) (symmetric : (a b : K) → eq a b ≡ eq b a) where
        -- the number stands at that index, and each once
        record IsAt (ks : List K) (at : ℕ) : Type 0 where
          pub distinct : IsDistinct eq ks
          pub within : at < length ks
          pub there : get_or ks at k ≡ k

        closed_there : (xs : List V) (at : ℕ) → IsAt (numbers xs) at → numbers (map closed_if xs) ≡ remove (numbers xs) at
        unfolding IsDistinct
        closed_there [] at h = absurd (omega (arith, h.within))
        closed_there (x ∷ xs) at h = by (is_open x) refl at h (closed_there xs)
          where
            by : (b : Bool) → is_open x ≡ b → (at : ℕ) → IsAt (numbers (x ∷ xs)) at → ((i : ℕ) → IsAt (numbers xs) i → numbers (map closed_if xs) ≡ remove (numbers xs) i) →
                numbers (map closed_if (x ∷ xs)) ≡ remove (numbers (x ∷ xs)) at
            by false closed at h later =
                numbers_first (closed_if x) (map closed_if xs)
                ∙ first_closed x (numbers (map closed_if xs)) closed
                ∙ later at (subst (λ ks. IsAt ks at) (closed_first x xs closed) h)
                ∙ ap (λ ks. remove ks at) (sym (closed_first x xs closed))
            by true still zero h later =
                let now = subst (λ ks. IsAt ks zero) (open_first x xs still) h in
                let own : eq (number x) k ≡ true = ap (eq (number x)) (sym now.there) ∙ reflexive (number x) in
                let apart : AllByRecursion (λ y. eq y k ≡ false) (numbers xs) = all_from_each (λ y. eq y k ≡ false) (numbers xs)
                (λ i d less. ap (eq (get_or (numbers xs) i d)) (sym now.there) ∙ symmetric (get_or (numbers xs) i d) (number x) ∙ each_from_all (λ y. eq (number x) y ≡ false) (numbers xs) now.distinct.0 i d less) in
                numbers_first (closed_if x) (map closed_if xs)
                ∙ first_own x (numbers (map closed_if xs)) own
                ∙ stay xs apart
                ∙ ap (λ ks. remove ks zero) (sym (open_first x xs still))
            by true still (suc at) h later =
                let now = subst (λ ks. IsAt ks (suc at)) (open_first x xs still) h in
                let fits : at < length (numbers xs) = omega (arith, now.within) in
                let other : eq (number x) k ≡ false = ap (eq (number x)) (sym now.there) ∙ each_from_all (λ y. eq (number x) y ≡ false) (numbers xs) now.distinct.0 at k fits in
                numbers_first (closed_if x) (map closed_if xs)
                ∙ ap (with_first (closed_if x)) (later at (record { distinct = now.distinct.1; within = fits; there = now.there }))
                ∙ first_other x (remove (numbers xs) at) other
                ∙ ap (λ b. cond b (number x ∷ remove (numbers xs) at) (remove (numbers xs) at)) still
                ∙ ap (λ ks. remove ks (suc at)) (sym (open_first x xs still))

        -- the one of that number closes, and its number goes
        pub closed_at : (xs : List V) (at : ℕ) → IsDistinct eq (numbers xs) → at < length (numbers xs) → get_or (numbers xs) at k ≡ k → numbers (map closed_if xs) ≡ remove (numbers xs) at
        closed_at xs at distinct within there = closed_there xs at (record { distinct = distinct; within = within; there = there })
