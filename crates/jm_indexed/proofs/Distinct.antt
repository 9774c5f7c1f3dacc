-- Entries of slots in order: each key stands once, and is found.
use Rattle.std.proofs.Common.{◌≡◌, ℕ, Bool, true, List, length, get_or, Option, Some, None, is_some, arith, sym, ◌∙◌, ap}
use Rattle.std.specs.Prelude.{MatchOption}
use Rattle.std.specs.Cmp.{IsEquivalence, IsTotalOrder}
use Rattle.std.specs.List.{IsDistinct, slice_get}
use Rattle.std.specs.Map.{keys_of, lookup}
use Rattle.std.specs.Ordering.{eq_by_cmp}
use Rattle.std.specs.declared.cmp.Ordering.{Ordering}
use Rattle.std.specs.declared.cmp.Ordering.TheVariants.{Equal}
use Rattle.std.proofs.lemmas.Cmp.{alike_right}
use Rattle.std.proofs.lemmas.Map.Keys.{IsDistinct-from_apart}
use Rattle.jm_slots.specs.Items.{item_in, items_before}
use Rattle.jm_slots.proofs.Items.{item_there}
use Rattle.jm_indexed.specs.Entries.{entries_of}
use Rattle.jm_indexed.specs.Order.{IsNowhere, IsOrder, IsSlotOf, index_in}
use Rattle.jm_indexed.proofs.Changed.{one_slot}
use Rattle.jm_indexed.proofs.Entries.{entries_none, entries_value}
use Rattle.jm_indexed.proofs.Lists.{is_equal, refuted}
use Rattle.jm_indexed.proofs.Slotted.{key_there, length-keys_of, nowhere_is, slot_at, slot_is, values_of-entries}

module _ {K V : Type 0} {cmp : K → K → Ordering} (o : IsTotalOrder cmp) (keys : List K) (slots : List (Option V)) (order : List ℕ) (it : IsOrder cmp keys slots order)
    {eq : K → K → Bool} (ties : (x y : K) → eq x y ≡ eq_by_cmp cmp x y) where
  tied_by : (x y : K) → eq x y ≡ true → cmp x y ≡ Equal
  tied_by x y hit = is_equal _ (sym (ties x y) ∙ hit)

  -- each key stands once
  pub are_distinct : IsDistinct eq (keys_of (entries_of keys slots))
  are_distinct = IsDistinct-from_apart eq (keys_of (entries_of keys slots)) (λ i j d l m. refuted _ (λ hit.
      let es = entries_of keys slots in
      let a = slot_at keys slots i (omega (arith, l, m, length-keys_of es)) in
      let b = slot_at keys slots j (omega (arith, m, length-keys_of es)) in
      let s = a.1 in
      let t = b.1 in
      let here : get_or keys a.0 d ≡ get_or (keys_of es) i d = sym (key_there keys slots a.0 d s.within s.value) ∙ ap (λ n. get_or (keys_of es) n d) s.index_is in
      let there : get_or keys b.0 d ≡ get_or (keys_of es) j d = sym (key_there keys slots b.0 d t.within t.value) ∙ ap (λ n. get_or (keys_of es) n d) t.index_is in
      let tied : cmp (get_or keys a.0 d) (get_or keys b.0 d) ≡ Equal = (λ u. cmp (here u) (there u)) ∙ tied_by (get_or (keys_of es) i d) (get_or (keys_of es) j d) hit in
      let same = one_slot o keys slots order it a.0 b.0 d s.value t.value tied in
      omega (arith, l, sym s.index_is ∙ ap (items_before slots) same ∙ t.index_is)))

  -- of slots that have values and keys that are equal to the key there is one
  pub only_slot : (key : K) (s t : ℕ) → IsSlotOf eq keys slots key s → IsSlotOf eq keys slots key t → t ≡ s
  only_slot key s t h k =
      one_slot o keys slots order it t s key k.value h.value
      (alike_right o (get_or keys s key) key (get_or keys t key) (tied_by (get_or keys s key) key h.equal) ∙ tied_by (get_or keys t key) key k.equal)

  -- ---- what stands under a key, by its slot

  module _ (even : length slots ≡ length keys) (key : K) where
    -- the key stands at the index of its slot
    pub index_found : (s : ℕ) → IsSlotOf eq keys slots key s → index_in eq (keys_of (entries_of keys slots)) key ≡ Some (items_before slots s)
    index_found s h = slot_is eq keys slots key s even h (λ t k. only_slot key s t h k)

    module _ (same : IsEquivalence eq) where
      -- with the value in that slot
      pub value_found : (s : ℕ) → IsSlotOf eq keys slots key s → lookup (eq key) (entries_of keys slots) ≡ item_in slots s
      value_found s h =
          sym (entries_value same key (entries_of keys slots) (Some (items_before slots s)) (sym (index_found s h)))
          ∙ ap (λ vs. slice_get vs (items_before slots s)) (values_of-entries keys slots even) ∙ item_there slots s h.value

      -- under a key that has no slot stands nothing
      pub none_found : IsNowhere eq keys slots key → lookup (eq key) (entries_of keys slots) ≡ None
      none_found none = entries_none same key (entries_of keys slots) (nowhere_is eq keys slots key none)

      -- so a key is there where a slot was found
      pub some_found : (r : Option ℕ) → MatchOption r (IsNowhere eq keys slots key) (IsSlotOf eq keys slots key) → is_some r ≡ is_some (lookup (eq key) (entries_of keys slots))
      some_found None h = sym (ap is_some (none_found h))
      some_found (Some s) h = sym (ap is_some (value_found s h) ∙ h.value)
