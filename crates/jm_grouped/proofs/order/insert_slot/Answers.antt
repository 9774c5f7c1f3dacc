use Rattle.std.proofs.Common.{◌≡◌, ◌∙◌, ◌++◌, ◌∷◌, [], ap, arith, cond, length, subst, sym}
use Rattle.std.specs.List.{Contains, insert}
use Rattle.jm_slots.proofs.Items.{ok_is}
use Rattle.jm_grouped.specs.Order.{IsRising}
use Rattle.jm_grouped.proofs.Lists.{Contains-insert, Contains-inserted}
use Rattle.jm_grouped.proofs.Orders.{IsRising-insert}
use Rattle.jm_grouped.proofs.order.insert_slot.Given.{Over}
use Rattle.jm_grouped.proofs.order.insert_slot.Goals as goal

-- what stands in the order
put : (g : Over) (c : goal.After-insert g) → c.insert.new.self.items ≡ insert c.args.order.now.items c.count_before-at.result (length c.args.items.now)
put g c = c.insert.ensures.items ∙ ap (λ b. cond b (insert c.args.order.now.items c.count_before-at.result (length c.args.items.now)) c.args.order.now.items) (ok_is c.insert.result (c.insert.ensures.succeeds c.requires.room))

pub returns-clause-order : goal.returns-clause-order
returns-clause-order g c =
    let items = c.args.items.now in
    let value = c.args.value.now in
    let at = c.count_before-at.result in
    let lent = c.deref.ensures.value in
    let counted = c.count_before-at.ensures in
    let it : IsRising g.T.Ord.cmp items c.deref.result.now = subst (IsRising g.T.Ord.cmp items) (sym lent) c.requires.order in
    subst (IsRising g.T.Ord.cmp (items ++ value ∷ [])) ((λ i. insert (lent i) at (length items)) ∙ sym (put g c))
    (IsRising-insert g.met.T.Ord.total items c.deref.result.now it value at counted.before counted.behind counted.within)

pub returns-clause-others : goal.returns-clause-others
returns-clause-others g c = λ slot there.
    let within = c.count_before-at.ensures.within in
    subst (λ xs. Contains xs slot) (sym (put g c))
    (Contains-insert c.args.order.now.items c.count_before-at.result (length c.args.items.now) slot (omega (arith, within, ap length c.deref.ensures.value)) there)

pub returns-clause-there : goal.returns-clause-there
returns-clause-there g c =
    let within = c.count_before-at.ensures.within in
    subst (λ xs. Contains xs (length c.args.items.now)) (sym (put g c))
    (Contains-inserted c.args.order.now.items c.count_before-at.result (length c.args.items.now) (omega (arith, within, ap length c.deref.ensures.value)))
