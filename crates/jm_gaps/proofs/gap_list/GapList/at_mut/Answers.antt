use Rattle.std.proofs.Common.{◌≡◌, ℕ, ◌∙◌, Some, ap, refl, set, sym}
use Rattle.std.specs.List.{slice_get}
use Rattle.jm_slots.specs.Items.{item_in, items, items_before}
use Rattle.jm_slots.specs.SlotList.{SlotList, with_item}
use Rattle.jm_slots.proofs.Items.{items-set_some}
use Rattle.jm_gaps.specs.Listed.{Listed, with_item_at}
use Rattle.jm_gaps.proofs.gap_list.GapList.at_mut.Goals as goal

-- a list in slots, as callers see it
abbrev seen : {A : Type 0} → SlotList A → Listed A
seen s = record { items = items s.slots; spare = s.spare }

module _ {A : Type 0} (s : SlotList A) (l : Listed A) (is : seen s ≡ l) (slot index : ℕ) (x : A) (there : item_in s.slots slot ≡ Some x) where
  -- what stands in the slot of an index is the item at the index
  found : item_in s.slots slot ≡ slice_get (items s.slots) index → slice_get l.items index ≡ Some x
  found e = ap (λ m. slice_get m.items index) (sym is) ∙ sym e ∙ there

  -- and what is written into the slot stands at the index
  written : (w : A) → items_before s.slots slot ≡ index → seen (with_item s slot w) ≡ with_item_at l index w
  written w before =
      let to : items (set s.slots slot (Some w)) ≡ set (items s.slots) index w = items-set_some s.slots slot x w there ∙ ap (λ n. set (items s.slots) n w) before in
      (λ i. record { items = to i; spare = s.spare }) ∙ ap (λ m. with_item_at m index w) is

pub returns : goal.returns
returns g c =
    let s = c.self.inside.slots in
    let l = c.args.self.now in
    let slot = c.slot_of-slot.result in
    let index = c.args.index in
    let x = c.get_mut.result.now in (
      (refl, λ w. written s l c.self.view_is slot index x c.get_mut.ensures.value w c.slot_of-slot.ensures.index),
      record {
        writes_back = tt;
        value = found s l c.self.view_is slot index x c.get_mut.ensures.value c.slot_of-slot.ensures.item;
      },
    )
