use Rattle.std.proofs.Common.{◌≡◌, ◌∙◌, false, ap, sym}
use Rattle.jm_indexed.specs.Order.{has_value}
use Rattle.jm_indexed.proofs.Slotted.{any_empty, any_other, got}
use Rattle.jm_indexed.proofs.order.any_kept.Goals as goal
use Rattle.jm_indexed.proofs.order.any_kept.Goals.{else-is_some-via-then-is_some+else-keeps, else-is_some-via-else-is_some}

pub loop-slot-preserved : goal.loop-slot-preserved
loop-slot-preserved g c =
    let keys = c.args.keys.now in
    let slots = c.args.values.now.slots in
    let at = c.loop-slot.slot in
    elim c.else-is_some.branch [
      | else-is_some-via-then-is_some+else-keeps w ↦ (
          let key = w.index-keys-slot.result in
          let misses = ap (g.C.Choice.kept c.args.choice.now) (sym w.index-keys-slot.is) ∙ sym w.keeps.ensures ∙ w.if-keeps.false in
          any_other (g.C.Choice.kept c.args.choice.now) keys slots at key c.loop-slot-test.true c.requires misses ∙ c.loop-slot.invariant)
      | else-is_some-via-else-is_some w ↦ (
          let empty : has_value slots at ≡ false = got slots at c.get.result false c.get.ensures (sym c.is_some.ensures ∙ w.if-is_some.false) in
          any_empty (g.C.Choice.kept c.args.choice.now) keys slots at c.loop-slot-test.true c.requires empty ∙ c.loop-slot.invariant)
    ]
