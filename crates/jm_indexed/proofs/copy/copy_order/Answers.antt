use Rattle.std.proofs.Common.{◌≡◌, ◌∙◌, ◌++◌, ◌∷◌, [], true, false, arith, ap, get_or, map, sym}
use Rattle.std.specs.List.{filter}
use Rattle.std.proofs.lemmas.List.{take_all}
use Rattle.jm_slots.specs.Items.{items_before}
use Rattle.jm_indexed.specs.Order.{has_value}
use Rattle.jm_indexed.proofs.Copied.{copied_empty, copied_more}
use Rattle.jm_indexed.proofs.Slotted.{got}
use Rattle.jm_indexed.proofs.copy.copy_order.Goals as goal
use Rattle.jm_indexed.proofs.copy.copy_order.Goals.{then-is_some+in_ok-push, else-is_some}

pub index_of-requires : goal.index_of-requires
index_of-requires g c = omega (arith, c.requires c.loop-slot.slot-index 0 c.loop-slot-test.true)

pub loop-slot-preserved : goal.loop-slot-preserved
loop-slot-preserved g c =
    let slots = c.args.values.now.slots in
    let order = c.args.order.now in
    let at = c.loop-slot.slot-index in
    let copy = c.loop-slot.copy.items in
    elim c.if-is_some.branch [
      | then-is_some+in_ok-push w ↦ (
          let has : has_value slots (get_or order at 0) ≡ true = got slots (get_or order at 0) c.get.result true c.get.ensures (sym c.is_some.ensures ∙ w.if-is_some.true) in
          (λ t. (w.copy-is t).items) ∙ w.in_ok-push.ensures.items ∙ ap (λ x. copy ++ x ∷ []) w.index_of.ensures.index ∙ copied_more slots order copy at c.loop-slot-test.true has c.loop-slot.invariant)
      | else-is_some w ↦ (
          let empty : has_value slots (get_or order at 0) ≡ false = got slots (get_or order at 0) c.get.result false c.get.ensures (sym c.is_some.ensures ∙ w.if-is_some.false) in
          (λ t. (w.copy-is t).items) ∙ copied_empty slots order copy at c.loop-slot-test.true empty c.loop-slot.invariant)
    ]

pub returns : goal.returns
returns g c =
    let slots = c.args.values.now.slots in
    c.loop-slot.invariant ∙ ap (λ xs. map (items_before slots) (filter (has_value slots) xs)) (take_all c.loop-slot.slot-index c.args.order.now c.loop-slot-test.false)
