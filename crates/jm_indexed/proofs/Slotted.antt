-- Keys beside slots, and the entries that they hold.
use Rattle.std.proofs.Common.{◌≡◌, ◌+◌, ◌<◌, ◌≤◌, ℕ, Bool, true, false, ◌||◌, List, [], ◌∷◌, ◌++◌, length, get_or, set, drop, Option, Some, None, is_some, arith, refl, sym, ◌∙◌, ap, subst, suc, zero, Bor}
use Rattle.std.specs.List.{list_any, remove, slice_get, zip}
use Rattle.std.specs.Option.{option_copied}
use Rattle.std.specs.Map.{keys_of, values_of}
use Rattle.std.proofs.lemmas.List.{drop_all, get_or_default}
use Rattle.jm_slots.specs.Items.{item_in, items, items_before}
use Rattle.jm_slots.proofs.Items.{index_within}
use Rattle.jm_indexed.specs.Entries.{entries_of, set_value_at, stays_in}
use Rattle.jm_indexed.specs.Order.{has_value, IsNowhere, IsSlotOf, index_in}
use Rattle.jm_indexed.proofs.Lists.{none_from_position, position_at, position_none, refuted}

module _ {A : Type 0} where
  -- what stands in a slot that has something
  pub the_item : (slots : List (Option A)) (slot : ℕ) → has_value slots slot ≡ true → (x : A) × (item_in slots slot ≡ Some x)
  the_item slots slot h = by (item_in slots slot) refl h
    where
      by : (o : Option A) → item_in slots slot ≡ o → is_some o ≡ true → (x : A) × (item_in slots slot ≡ Some x)
      by None e h = cc
      by (Some x) e h = (x, e)

  pub has_item : (slots : List (Option A)) (slot : ℕ) (x : A) → item_in slots slot ≡ Some x → has_value slots slot ≡ true
  has_item slots slot x e = ap is_some e

-- what was looked up says whether there is a value
pub got : {V : Type 0} (slots : List (Option V)) (slot : ℕ) (r : Option (Bor V)) (b : Bool) → option_copied r ≡ item_in slots slot → is_some r ≡ b → has_value slots slot ≡ b
got slots slot None b e f = ap is_some (sym e) ∙ f
got slots slot (Some v) b e f = ap is_some (sym e) ∙ f

module _ {K V : Type 0} where
  pub length-entries : (keys : List K) (slots : List (Option V)) → length slots ≡ length keys → length (entries_of keys slots) ≡ length (items slots)
  length-entries [] [] even = refl
  length-entries [] (o ∷ slots) even = absurd (omega (arith, even))
  length-entries (k ∷ keys) [] even = absurd (omega (arith, even))
  length-entries (k ∷ keys) (None ∷ slots) even = length-entries keys slots (omega (arith, even))
  length-entries (k ∷ keys) (Some v ∷ slots) even = ap suc (length-entries keys slots (omega (arith, even)))

  pub length-keys_of : (es : List (K × V)) → length (keys_of es) ≡ length es
  length-keys_of [] = refl
  length-keys_of (e ∷ es) = ap suc (length-keys_of es)

  pub entries_fewer : (keys : List K) (slots : List (Option V)) → length (entries_of keys slots) ≤ length keys
  entries_fewer [] slots = omega arith
  entries_fewer (k ∷ keys) [] = omega arith
  entries_fewer (k ∷ keys) (None ∷ slots) = omega (arith, entries_fewer keys slots)
  entries_fewer (k ∷ keys) (Some v ∷ slots) = omega (arith, entries_fewer keys slots)

  pub values_of-entries : (keys : List K) (slots : List (Option V)) → length slots ≡ length keys → values_of (entries_of keys slots) ≡ items slots
  values_of-entries [] [] even = refl
  values_of-entries [] (o ∷ slots) even = absurd (omega (arith, even))
  values_of-entries (k ∷ keys) [] even = absurd (omega (arith, even))
  values_of-entries (k ∷ keys) (None ∷ slots) even = values_of-entries keys slots (omega (arith, even))
  values_of-entries (k ∷ keys) (Some v ∷ slots) even = ap (λ vs. v ∷ vs) (values_of-entries keys slots (omega (arith, even)))

  -- one more entry
  pub entries-push : (keys : List K) (slots : List (Option V)) (k : K) (v : V) → length slots ≡ length keys → entries_of (keys ++ k ∷ []) (slots ++ Some v ∷ []) ≡ entries_of keys slots ++ (k, v) ∷ []
  entries-push [] [] k v even = refl
  entries-push [] (o ∷ slots) k v even = absurd (omega (arith, even))
  entries-push (x ∷ keys) [] k v even = absurd (omega (arith, even))
  entries-push (x ∷ keys) (None ∷ slots) k v even = entries-push keys slots k v (omega (arith, even))
  entries-push (x ∷ keys) (Some w ∷ slots) k v even = ap (λ es. (x, w) ∷ es) (entries-push keys slots k v (omega (arith, even)))

  -- an entry stands at the index of its slot
  pub entry_there : (keys : List K) (slots : List (Option V)) (s : ℕ) (k : K) (v : V) → s < length keys → k ≡ get_or keys s k → item_in slots s ≡ Some v → slice_get (entries_of keys slots) (items_before slots s) ≡ Some (k, v)
  entry_there [] slots s k v l is e = absurd (omega (arith, l))
  entry_there (x ∷ keys) [] s k v l is e = cc
  entry_there (x ∷ keys) (None ∷ slots) zero k v l is e = cc
  entry_there (x ∷ keys) (Some w ∷ slots) zero k v l is e = let same : w ≡ v = cc in λ j. Some (sym is j, same j)
  entry_there (x ∷ keys) (None ∷ slots) (suc s) k v l is e = entry_there keys slots s k v (omega (arith, l)) is e
  entry_there (x ∷ keys) (Some w ∷ slots) (suc s) k v l is e = entry_there keys slots s k v (omega (arith, l)) is e

  pub key_there : (keys : List K) (slots : List (Option V)) (s : ℕ) (d : K) → s < length keys → has_value slots s ≡ true → get_or (keys_of (entries_of keys slots)) (items_before slots s) d ≡ get_or keys s d
  key_there [] slots s d l h = absurd (omega (arith, l))
  key_there (x ∷ keys) [] s d l h = cc
  key_there (x ∷ keys) (None ∷ slots) zero d l h = cc
  key_there (x ∷ keys) (Some w ∷ slots) zero d l h = refl
  key_there (x ∷ keys) (None ∷ slots) (suc s) d l h = key_there keys slots s d (omega (arith, l)) h
  key_there (x ∷ keys) (Some w ∷ slots) (suc s) d l h = key_there keys slots s d (omega (arith, l)) h

  -- the slot of an entry
  pub record IsEntryIn (keys : List K) (slots : List (Option V)) (index slot : ℕ) : Type 0 where
    pub within : slot < length keys
    pub value : has_value slots slot ≡ true
    pub index_is : items_before slots slot ≡ index

  pub slot_at : (keys : List K) (slots : List (Option V)) (i : ℕ) → i < length (entries_of keys slots) → (s : ℕ) × IsEntryIn keys slots i s
  slot_at [] slots i l = absurd (omega (arith, l))
  slot_at (x ∷ keys) [] i l = absurd (omega (arith, l))
  slot_at (x ∷ keys) (None ∷ slots) i l = let h = slot_at keys slots i l in let t = h.1 in (suc h.0, record { within = let w = t.within in omega (arith, w); value = t.value; index_is = t.index_is })
  slot_at (x ∷ keys) (Some v ∷ slots) zero l = (0, record { within = omega arith; value = refl; index_is = refl })
  slot_at (x ∷ keys) (Some v ∷ slots) (suc i) l = let h = slot_at keys slots i (omega (arith, l)) in let t = h.1 in (suc h.0, record { within = let w = t.within in omega (arith, w); value = t.value; index_is = ap suc t.index_is })

  -- the value of an entry goes, and so does the entry
  pub entries-take : (keys : List K) (slots : List (Option V)) (s : ℕ) → s < length keys → has_value slots s ≡ true → entries_of keys (set slots s None) ≡ remove (entries_of keys slots) (items_before slots s)
  entries-take [] slots s l h = absurd (omega (arith, l))
  entries-take (x ∷ keys) [] s l h = cc
  entries-take (x ∷ keys) (None ∷ slots) zero l h = cc
  entries-take (x ∷ keys) (Some v ∷ slots) zero l h = refl
  entries-take (x ∷ keys) (None ∷ slots) (suc s) l h = entries-take keys slots s (omega (arith, l)) h
  entries-take (x ∷ keys) (Some v ∷ slots) (suc s) l h = ap (λ es. (x, v) ∷ es) (entries-take keys slots s (omega (arith, l)) h)

  -- another value stands in its place
  pub entries-write : (keys : List K) (slots : List (Option V)) (s : ℕ) (w : V) → s < length keys → has_value slots s ≡ true → entries_of keys (set slots s (Some w)) ≡ set_value_at (entries_of keys slots) (items_before slots s) w
  entries-write [] slots s w l h = absurd (omega (arith, l))
  entries-write (x ∷ keys) [] s w l h = cc
  entries-write (x ∷ keys) (None ∷ slots) zero w l h = cc
  entries-write (x ∷ keys) (Some v ∷ slots) zero w l h = refl
  entries-write (x ∷ keys) (None ∷ slots) (suc s) w l h = entries-write keys slots s w (omega (arith, l)) h
  entries-write (x ∷ keys) (Some v ∷ slots) (suc s) w l h = ap (λ es. (x, v) ∷ es) (entries-write keys slots s w (omega (arith, l)) h)

  -- ---- a key that is looked for

  module _ (eq : K → K → Bool) (keys : List K) (slots : List (Option V)) (key : K) where
    slot_of_equal : (i : ℕ) → i < length (keys_of (entries_of keys slots)) → eq (get_or (keys_of (entries_of keys slots)) i key) key ≡ true → (s : ℕ) × IsSlotOf eq keys slots key s × (items_before slots s ≡ i)
    slot_of_equal i l hit =
        let h = slot_at keys slots i (omega (arith, l, length-keys_of (entries_of keys slots))) in
        let t = h.1 in
        let is = key_there keys slots h.0 key t.within t.value in
        (h.0, record { within = t.within; value = t.value; equal = ap (λ k. eq k key) (sym is ∙ ap (λ n. get_or (keys_of (entries_of keys slots)) n key) t.index_is) ∙ hit }, t.index_is)

    -- a key that is nowhere is not found
    pub nowhere_is : IsNowhere eq keys slots key → index_in eq (keys_of (entries_of keys slots)) key ≡ None
    nowhere_is none = position_none (λ k. eq k key) (keys_of (entries_of keys slots)) (λ i d l. refuted _ (λ hit.
        let found = slot_of_equal i l (ap (λ k. eq k key) (get_or_default (keys_of (entries_of keys slots)) i key d l) ∙ hit) in
        none found.0 found.1))

    -- the only slot of a key is the one that is found
    pub slot_is : (s : ℕ) → length slots ≡ length keys → IsSlotOf eq keys slots key s → ((t : ℕ) → IsSlotOf eq keys slots key t → t ≡ s) → index_in eq (keys_of (entries_of keys slots)) key ≡ Some (items_before slots s)
    slot_is s even h only =
        let v = the_item slots s h.value in
        let inside : items_before slots s < length (keys_of (entries_of keys slots)) = omega (arith, index_within slots s v.0 v.1, length-entries keys slots even, length-keys_of (entries_of keys slots)) in
        position_at (λ k. eq k key) (keys_of (entries_of keys slots)) (items_before slots s) key inside
        (λ i l. refuted _ (λ hit.
        let found = slot_of_equal i (omega (arith, l, inside)) hit in
        let same = only found.0 found.1 in
        omega (arith, l, sym found.2 ∙ ap (items_before slots) same)))
        (ap (λ k. eq k key) (key_there keys slots s key h.within h.value) ∙ h.equal)

    -- what is not found is nowhere
    pub nowhere_from : length slots ≡ length keys → index_in eq (keys_of (entries_of keys slots)) key ≡ None → IsNowhere eq keys slots key
    nowhere_from even none s h =
        let v = the_item slots s h.value in
        let inside : items_before slots s < length (keys_of (entries_of keys slots)) = omega (arith, index_within slots s v.0 v.1, length-entries keys slots even, length-keys_of (entries_of keys slots)) in
        let miss = none_from_position (λ k. eq k key) (keys_of (entries_of keys slots)) none (items_before slots s) key inside in
        let hit : eq (get_or (keys_of (entries_of keys slots)) (items_before slots s) key) key ≡ true = ap (λ k. eq k key) (key_there keys slots s key h.within h.value) ∙ h.equal in
        cc

-- ---- an index and its slot

module _ {K V : Type 0} where
  -- a key and a value at one index are an entry
  pub pair_there : (es : List (K × V)) (i : ℕ) (k : K) (v : V) → k ≡ get_or (keys_of es) i k → slice_get (values_of es) i ≡ Some v → slice_get es i ≡ Some (k, v)
  pair_there [] i k v a b = cc
  pair_there (e ∷ es) zero k v a b = let same : e.1 ≡ v = cc in λ j. Some (sym a j, same j)
  pair_there (e ∷ es) (suc i) k v a b = pair_there es i k v a b

  -- an item is the value of the entry at its index
  pub value_at : (keys : List K) (slots : List (Option V)) (i : ℕ) (v : V) → length slots ≡ length keys → slice_get (items slots) i ≡ Some v → slice_get (values_of (entries_of keys slots)) i ≡ Some v
  value_at keys slots i v even e = ap (λ vs. slice_get vs i) (values_of-entries keys slots even) ∙ e

  -- the key of a slot is that of the entry at its index
  pub key_by : (keys : List K) (slots : List (Option V)) (s i : ℕ) (d : K) → s < length keys → has_value slots s ≡ true → items_before slots s ≡ i → get_or keys s d ≡ get_or (keys_of (entries_of keys slots)) i d
  key_by keys slots s i d l h e = sym (key_there keys slots s d l h) ∙ ap (λ n. get_or (keys_of (entries_of keys slots)) n d) e

-- ---- walks over the slots

one : (n : ℕ) → suc n ≡ n + 1
one n = omega arith

module _ {K V : Type 0} where
  abbrev Rest : (K → Bool) → List K → List (Option V) → ℕ → Bool
  Rest p keys slots at = list_any p (keys_of (entries_of (drop at keys) (drop at slots)))

  module _ (p : K → Bool) where
    skip_empty : (keys : List K) (slots : List (Option V)) (at : ℕ) → at < length keys → length slots ≡ length keys → has_value slots at ≡ false → Rest p keys slots (suc at) ≡ Rest p keys slots at
    skip_empty [] slots at l even h = absurd (omega (arith, l))
    skip_empty (k ∷ keys) [] at l even h = absurd (omega (arith, even))
    skip_empty (k ∷ keys) (None ∷ slots) zero l even h = refl
    skip_empty (k ∷ keys) (Some v ∷ slots) zero l even h = cc
    skip_empty (k ∷ keys) (v ∷ slots) (suc at) l even h = skip_empty keys slots at (omega (arith, l)) (omega (arith, even)) h

    skip_other : (keys : List K) (slots : List (Option V)) (at : ℕ) (d : K) → at < length keys → length slots ≡ length keys → p (get_or keys at d) ≡ false → Rest p keys slots (suc at) ≡ Rest p keys slots at
    skip_other [] slots at d l even h = absurd (omega (arith, l))
    skip_other (k ∷ keys) [] at d l even h = absurd (omega (arith, even))
    skip_other (k ∷ keys) (None ∷ slots) zero d l even h = refl
    skip_other (k ∷ keys) (Some v ∷ slots) zero d l even h = sym (ap (λ b. b || list_any p (keys_of (entries_of keys slots))) h)
    skip_other (k ∷ keys) (v ∷ slots) (suc at) d l even h = skip_other keys slots at d (omega (arith, l)) (omega (arith, even)) h

    -- a slot that has no value is passed by
    pub any_empty : (keys : List K) (slots : List (Option V)) (at : ℕ) → at < length keys → length slots ≡ length keys → has_value slots at ≡ false → Rest p keys slots (at + 1) ≡ Rest p keys slots at
    any_empty keys slots at l even h = subst (λ n. Rest p keys slots n ≡ Rest p keys slots at) (one at) (skip_empty keys slots at l even h)

    -- and so is a key that does not pass
    pub any_other : (keys : List K) (slots : List (Option V)) (at : ℕ) (d : K) → at < length keys → length slots ≡ length keys → p (get_or keys at d) ≡ false → Rest p keys slots (at + 1) ≡ Rest p keys slots at
    any_other keys slots at d l even h = subst (λ n. Rest p keys slots n ≡ Rest p keys slots at) (one at) (skip_other keys slots at d l even h)

    -- a key that passes settles the answer
    pub any_there : (keys : List K) (slots : List (Option V)) (at : ℕ) (d : K) → at < length keys → has_value slots at ≡ true → p (get_or keys at d) ≡ true → Rest p keys slots at ≡ true
    any_there [] slots at d l h e = absurd (omega (arith, l))
    any_there (k ∷ keys) [] at d l h e = cc
    any_there (k ∷ keys) (None ∷ slots) zero d l h e = cc
    any_there (k ∷ keys) (Some v ∷ slots) zero d l h e = ap (λ b. b || list_any p (keys_of (entries_of keys slots))) e
    any_there (k ∷ keys) (v ∷ slots) (suc at) d l h e = any_there keys slots at d (omega (arith, l)) h e

    -- behind the last there is none
    pub any_end : (keys : List K) (slots : List (Option V)) (at : ℕ) → length keys ≤ at → Rest p keys slots at ≡ false
    any_end keys slots at l = ap (λ ks. list_any p (keys_of (entries_of ks (drop at slots)))) (drop_all at keys l)

  -- the cell of a slot, and those behind it
  cell_from : (kept : K → V → Bool) (keys : List K) (slots : List (Option V)) (at : ℕ) (r : Bool) → at < length keys → length slots ≡ length keys → ((d : K) → r ≡ stays_in kept (get_or keys at d, item_in slots at)) →
      (c : K × Option V) × (drop at (zip keys slots) ≡ c ∷ drop (suc at) (zip keys slots)) × (stays_in kept c ≡ r)
  cell_from kept [] slots at r l even h = absurd (omega (arith, l))
  cell_from kept (k ∷ keys) [] at r l even h = absurd (omega (arith, even))
  cell_from kept (k ∷ keys) (v ∷ slots) zero r l even h = ((k, v), refl, sym (h k))
  cell_from kept (k ∷ keys) (v ∷ slots) (suc at) r l even h = cell_from kept keys slots at r (omega (arith, l)) (omega (arith, even)) h

  pub cell_next : (kept : K → V → Bool) (keys : List K) (slots : List (Option V)) (at : ℕ) (r : Bool) → at < length keys → length slots ≡ length keys → ((d : K) → r ≡ stays_in kept (get_or keys at d, item_in slots at)) →
      (c : K × Option V) × (drop at (zip keys slots) ≡ c ∷ drop (at + 1) (zip keys slots)) × (stays_in kept c ≡ r)
  cell_next kept keys slots at r l even h = let c = cell_from kept keys slots at r l even h in (c.0, c.1 ∙ ap (λ n. c.0 ∷ drop n (zip keys slots)) (one at), c.2)
