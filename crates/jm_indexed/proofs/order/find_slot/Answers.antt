use Rattle.std.proofs.Common.{◌≡◌, ◌<◌, ◌∙◌, false, ap, arith, get_or, length, sym}
use Rattle.std.proofs.lemmas.List.{get_or_read}
use Rattle.jm_indexed.specs.Order.{has_value}
use Rattle.jm_indexed.proofs.Orders.{none_left, none_other}
use Rattle.jm_indexed.proofs.Slotted.{got}
use Rattle.jm_indexed.proofs.order.find_slot.Goals as goal
use Rattle.jm_indexed.proofs.order.find_slot.Goals.{else-eq-via-then-eq+else-is_some, else-eq-via-else-eq}

pub returns-else-eq : goal.returns-else-eq
returns-else-eq g c =
    let keys = c.args.keys.now in
    let order = c.args.order.now in
    let counted = c.count_before-at.ensures in
    let at = c.count_before-at.result in
    let inside : at < length order = omega (arith, counted.within, c.if-at-order.false) in
    elim c.else-eq.branch [
      | else-eq-via-then-eq+else-is_some w ↦ (
          let empty : has_value c.args.values.now.slots (get_or order at 0) ≡ false = got c.args.values.now.slots (get_or order at 0) w.get.result false w.get.ensures (sym w.is_some.ensures ∙ w.if-is_some.false) in
          none_left g.met.K.Ord.total keys order c.requires.rises c.args.key.now at counted.before counted.behind c.args.values.now.slots c.requires.whole g.met.K.Ord.matches_eq empty)
      | else-eq-via-else-eq w ↦ (
          let read = get_or_read keys (get_or order at 0) c.index-keys-slot.result (c.requires.rises.within at 0 inside) c.index-keys-slot.is c.args.key.now in
          none_other g.met.K.Ord.total keys order c.requires.rises c.args.key.now at counted.before counted.behind c.args.values.now.slots c.requires.whole g.met.K.Ord.matches_eq
          (ap (λ x. g.K.PartialEq.eq x c.args.key.now) (sym read) ∙ sym c.eq.ensures ∙ w.if-eq.false))
    ]
