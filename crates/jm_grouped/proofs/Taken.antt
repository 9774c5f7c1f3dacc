-- Slots that are taken, and their items.
use Rattle.std.proofs.Common.{◌≡◌, ◌<◌, ◌≤◌, ℕ, Bool, true, List, [], ◌∷◌, ◌++◌, length, get_or, set, Option, Some, None, is_some, arith, refl, sym, ◌∙◌, ap, subst, suc, zero, Bor}
use Rattle.std.specs.List.{Contains, filter, remove, slice_get}
use Rattle.std.specs.Option.{option_copied}
use Rattle.std.proofs.lemmas.List.{get_or-map, get_or_append_left, length-map}
use Rattle.std.proofs.lemmas.Option.{slice_get_read}
use Rattle.jm_slots.specs.Items.{item_in, items, items_before}
use Rattle.jm_slots.proofs.Items.{index_rises, index_within, some_within}
use Rattle.jm_grouped.specs.Grouped.{items_of}
use Rattle.jm_grouped.specs.Order.{indexes_in, is_taken}
use Rattle.jm_grouped.proofs.Lists.{Contains-filter}

module _ {V : Type 0} where
  -- what a slot holds that is taken
  pub the_held : (slots : List (Option V)) (slot : ℕ) → is_taken slots slot ≡ true → (v : V) × (item_in slots slot ≡ Some v)
  the_held slots slot h = by (item_in slots slot) refl h
    where
      by : (o : Option V) → item_in slots slot ≡ o → is_some o ≡ true → (v : V) × (item_in slots slot ≡ Some v)
      by None e h = cc
      by (Some v) e h = (v, e)

  -- what was looked up says whether the slot is taken
  pub got : (slots : List (Option V)) (slot : ℕ) (r : Option (Bor V)) (b : Bool) → option_copied r ≡ item_in slots slot → is_some r ≡ b → is_taken slots slot ≡ b
  got slots slot None b e f = ap is_some (sym e) ∙ f
  got slots slot (Some v) b e f = ap is_some (sym e) ∙ f

  -- no slot is taken behind the last
  pub taken_within : (slots : List (Option V)) (slot : ℕ) → is_taken slots slot ≡ true → slot < length slots
  taken_within slots slot h = some_within slots slot h

  -- a slot that is taken, beside one more, which has the length as its number
  pub taken_push : (slots : List (Option V)) (v : V) (i : ℕ) → i < length slots → is_taken (slots ++ Some v ∷ []) i ≡ true → is_taken slots i ≡ true
  taken_push slots v i l h = ap is_some (sym (get_or_append_left slots (Some v ∷ []) None i l)) ∙ h

  -- where one is emptied, the others are taken as before
  pub taken_kept : (slots : List (Option V)) (s i : ℕ) → is_taken (set slots s None) i ≡ true → is_taken slots i ≡ true
  taken_kept [] s i h = h
  taken_kept (o ∷ slots) zero zero h = cc
  taken_kept (o ∷ slots) zero (suc i) h = h
  taken_kept (o ∷ slots) (suc s) zero h = h
  taken_kept (o ∷ slots) (suc s) (suc i) h = taken_kept slots s i h

  -- the indexes of slots that are taken rise with the slots
  pub rises : (slots : List (Option V)) (s t : ℕ) → is_taken slots s ≡ true → is_taken slots t ≡ true → s < t → items_before slots s < items_before slots t
  rises slots s t h k l =
      let v = the_held slots s h in
      let w = taken_within slots t k in
      index_rises slots s t v.0 v.1 l (omega (arith, w))

  -- the index of a slot that is taken is one of those
  pub Contains-indexes : (slots : List (Option V)) (places : List ℕ) (s n : ℕ) → Contains places s → is_taken slots s ≡ true → items_before slots s ≡ n → Contains (indexes_in slots places) n
  Contains-indexes slots places s n there taken is =
      let at = Contains-filter (is_taken slots) places s there taken in
      let kept = filter (is_taken slots) places in
      (at.0, omega (arith, at.1, length-map kept (items_before slots)), get_or-map (items_before slots) kept at.0 s n at.1 ∙ ap (items_before slots) at.2 ∙ is)

module _ {T V : Type 0} where
  pub length-items_of : (xs : List T) (slots : List (Option V)) → length slots ≡ length xs → length (items_of xs slots) ≡ length (items slots)
  length-items_of [] [] even = refl
  length-items_of [] (o ∷ slots) even = absurd (omega (arith, even))
  length-items_of (x ∷ xs) [] even = absurd (omega (arith, even))
  length-items_of (x ∷ xs) (None ∷ slots) even = length-items_of xs slots (omega (arith, even))
  length-items_of (x ∷ xs) (Some v ∷ slots) even = ap suc (length-items_of xs slots (omega (arith, even)))

  -- there are no more items than slots
  pub items_of_fewer : (xs : List T) (slots : List (Option V)) → length (items_of xs slots) ≤ length xs
  items_of_fewer [] slots = omega arith
  items_of_fewer (x ∷ xs) [] = omega arith
  items_of_fewer (x ∷ xs) (None ∷ slots) = omega (arith, items_of_fewer xs slots)
  items_of_fewer (x ∷ xs) (Some v ∷ slots) = omega (arith, items_of_fewer xs slots)

  -- the index of a slot that is taken is that of an item
  pub index_inside : (xs : List T) (slots : List (Option V)) (s : ℕ) → length slots ≡ length xs → is_taken slots s ≡ true → items_before slots s < length (items_of xs slots)
  index_inside xs slots s even h = let v = the_held slots s h in omega (arith, index_within slots s v.0 v.1, length-items_of xs slots even)

  -- one more item
  pub items_of-push : (xs : List T) (slots : List (Option V)) (x : T) (v : V) → length slots ≡ length xs → items_of (xs ++ x ∷ []) (slots ++ Some v ∷ []) ≡ items_of xs slots ++ x ∷ []
  items_of-push [] [] x v even = refl
  items_of-push [] (o ∷ slots) x v even = absurd (omega (arith, even))
  items_of-push (y ∷ xs) [] x v even = absurd (omega (arith, even))
  items_of-push (y ∷ xs) (None ∷ slots) x v even = items_of-push xs slots x v (omega (arith, even))
  items_of-push (y ∷ xs) (Some w ∷ slots) x v even = ap (λ ys. y ∷ ys) (items_of-push xs slots x v (omega (arith, even)))

  -- an item stands at the index of its slot
  pub item_there : (xs : List T) (slots : List (Option V)) (s : ℕ) (d : T) → s < length xs → is_taken slots s ≡ true → get_or (items_of xs slots) (items_before slots s) d ≡ get_or xs s d
  item_there [] slots s d l h = absurd (omega (arith, l))
  item_there (x ∷ xs) [] s d l h = cc
  item_there (x ∷ xs) (None ∷ slots) zero d l h = cc
  item_there (x ∷ xs) (Some w ∷ slots) zero d l h = refl
  item_there (x ∷ xs) (None ∷ slots) (suc s) d l h = item_there xs slots s d (omega (arith, l)) h
  item_there (x ∷ xs) (Some w ∷ slots) (suc s) d l h = item_there xs slots s d (omega (arith, l)) h

  -- the slot of an item
  pub record IsSlotOf (xs : List T) (slots : List (Option V)) (index slot : ℕ) : Type 0 where
    pub within : slot < length xs
    pub taken : is_taken slots slot ≡ true
    pub index_is : items_before slots slot ≡ index

  pub slot_at : (xs : List T) (slots : List (Option V)) (i : ℕ) → i < length (items_of xs slots) → (s : ℕ) × IsSlotOf xs slots i s
  slot_at [] slots i l = absurd (omega (arith, l))
  slot_at (x ∷ xs) [] i l = absurd (omega (arith, l))
  slot_at (x ∷ xs) (None ∷ slots) i l = let h = slot_at xs slots i l in let t = h.1 in (suc h.0, record { within = let w = t.within in omega (arith, w); taken = t.taken; index_is = t.index_is })
  slot_at (x ∷ xs) (Some v ∷ slots) zero l = (0, record { within = omega arith; taken = refl; index_is = refl })
  slot_at (x ∷ xs) (Some v ∷ slots) (suc i) l = let h = slot_at xs slots i (omega (arith, l)) in let t = h.1 in (suc h.0, record { within = let w = t.within in omega (arith, w); taken = t.taken; index_is = ap suc t.index_is })

  -- the item of a slot is that at its index
  pub item_is : (xs : List T) (slots : List (Option V)) (s i : ℕ) (d : T) → IsSlotOf xs slots i s → get_or xs s d ≡ get_or (items_of xs slots) i d
  item_is xs slots s i d t = sym (item_there xs slots s d t.within t.taken) ∙ ap (λ n. get_or (items_of xs slots) n d) t.index_is

  -- what was read from a slot is the item at its index
  pub item_got : (xs : List T) (slots : List (Option V)) (s i : ℕ) (x : T) → IsSlotOf xs slots i s → length slots ≡ length xs → x ≡ get_or xs s x → slice_get (items_of xs slots) i ≡ Some x
  item_got xs slots s i x t even read =
      let inside : i < length (items_of xs slots) = subst (λ n. n < length (items_of xs slots)) t.index_is (index_inside xs slots s even t.taken) in
      slice_get_read (items_of xs slots) (length (items_of xs slots)) i x refl inside (read ∙ item_is xs slots s i x t)

  -- a slot is emptied, and its item goes
  pub items_of-take : (xs : List T) (slots : List (Option V)) (s : ℕ) → s < length xs → is_taken slots s ≡ true → items_of xs (set slots s None) ≡ remove (items_of xs slots) (items_before slots s)
  items_of-take [] slots s l h = absurd (omega (arith, l))
  items_of-take (x ∷ xs) [] s l h = cc
  items_of-take (x ∷ xs) (None ∷ slots) zero l h = cc
  items_of-take (x ∷ xs) (Some v ∷ slots) zero l h = refl
  items_of-take (x ∷ xs) (None ∷ slots) (suc s) l h = items_of-take xs slots s (omega (arith, l)) h
  items_of-take (x ∷ xs) (Some v ∷ slots) (suc s) l h = ap (λ ys. x ∷ ys) (items_of-take xs slots s (omega (arith, l)) h)
