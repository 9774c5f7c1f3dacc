use Rattle.std.proofs.Common.{◌<◌, ◌∙◌, ◌++◌, ◌∷◌, [], Some, ap, arith, cond, length, set, sym, subst}
use Rattle.std.specs.List.{insert}
use Rattle.jm_indexed.specs.Order.{IsOrder}
use Rattle.jm_indexed.proofs.Changed.{IsOrder-insert, IsOrder-put}
use Rattle.jm_indexed.proofs.Lists.{ok_is, read_there}
use Rattle.jm_indexed.proofs.order.insert_slot.Goals as goal
use Rattle.jm_indexed.proofs.order.insert_slot.Goals.{else-at-len-via-then-at-len+else-eq, else-at-len-via-else-at-len}

pub returns-then-eq-clause-order : goal.returns-then-eq-clause-order
returns-then-eq-clause-order g c = λ v.
    let keys = c.args.keys.now in
    let slots = c.args.values.now.slots in
    let key = c.args.key.now in
    let order = c.args.order.now.items in
    let at = c.count_before-at.result in
    let lent = c.deref.ensures.value in
    let it : IsOrder g.K.Ord.cmp keys slots c.deref.result.now = subst (IsOrder g.K.Ord.cmp keys slots) (sym lent) c.requires.order in
    let counted = c.count_before-at.ensures in
    let inside : at < length c.deref.result.now = omega (arith, c.if-at-len.true, c.len.ensures, c.deref.ensures.len) in
    let read = read_there keys c.deref.result.now order at c.index.result.now c.index-keys-index.result key lent inside (it.rises.within at 0 inside) c.index.ensures c.index-keys-index.is in
    subst (IsOrder g.K.Ord.cmp (keys ++ key ∷ []) (slots ++ Some v ∷ [])) (λ i. set (lent i) at (length keys))
    (IsOrder-put g.met.K.Ord.total keys slots c.deref.result.now it c.requires.even key v at counted.before counted.behind g.met.K.Ord.matches_eq c.requires.absent inside
    (ap (λ x. g.K.PartialEq.eq x key) (sym read) ∙ sym c.eq.ensures ∙ c.if-eq.true))

pub returns-else-at-len-clause-order : goal.returns-else-at-len-clause-order
returns-else-at-len-clause-order g c = λ v.
    let keys = c.args.keys.now in
    let slots = c.args.values.now.slots in
    let key = c.args.key.now in
    let at = c.count_before-at.result in
    let lent = c.deref.ensures.value in
    let it : IsOrder g.K.Ord.cmp keys slots c.deref.result.now = subst (IsOrder g.K.Ord.cmp keys slots) (sym lent) c.requires.order in
    let counted = c.count_before-at.ensures in
    let placed = ap (λ b. cond b (insert c.args.order.now.items at (length keys)) c.args.order.now.items) (ok_is c.insert.result (c.insert.ensures.succeeds c.requires.room)) in
    subst (IsOrder g.K.Ord.cmp (keys ++ key ∷ []) (slots ++ Some v ∷ [])) ((λ i. insert (lent i) at (length keys)) ∙ sym (c.insert.ensures.items ∙ placed))
    (IsOrder-insert g.met.K.Ord.total keys slots c.deref.result.now it c.requires.even key v at counted.before counted.behind g.met.K.Ord.matches_eq c.requires.absent counted.within (λ l. elim c.else-at-len.branch [
      | else-at-len-via-then-at-len+else-eq w ↦ (
          let read = read_there keys c.deref.result.now c.args.order.now.items at w.index.result.now w.index-keys-index.result key lent l (it.rises.within at 0 l) w.index.ensures w.index-keys-index.is in
          ap (λ x. g.K.PartialEq.eq x key) (sym read) ∙ sym w.eq.ensures ∙ w.if-eq.false)
      | else-at-len-via-else-at-len w ↦ absurd (omega (arith, l, w.if-at-len.false, c.len.ensures, c.deref.ensures.len))
    ]))
