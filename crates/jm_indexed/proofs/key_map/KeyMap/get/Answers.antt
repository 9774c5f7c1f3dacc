use Rattle.std.proofs.Common.{◌∙◌, subst, sym}
use Rattle.jm_indexed.specs.Order.{IsNowhere, IsSlotOf}
use Rattle.jm_indexed.proofs.Distinct.{none_found, value_found}
use Rattle.jm_indexed.proofs.key_map.KeyMap.get.Goals as goal

pub returns-in-Some : goal.returns-in-Some
returns-in-Some g c =
    let keys = c.self.inside.keys.items in
    let slots = c.self.inside.values.slots in
    let there = subst (λ ks. IsSlotOf g.K.PartialEq.eq ks slots c.args.key.now c.in-Some.slot) c.as_slice.ensures.value c.in-Some.ensures in
    rw (← c.self.view_is)
    (c.get.ensures
    ∙ sym (value_found g.met.K.Ord.total keys slots c.self.inside.order.items c.self.invariant.ordered g.met.K.Ord.matches_eq c.self.invariant.even c.args.key.now g.met.K.Eq.laws c.in-Some.slot there))

pub returns-in-None : goal.returns-in-None
returns-in-None g c =
    let keys = c.self.inside.keys.items in
    let slots = c.self.inside.values.slots in
    let none = subst (λ ks. IsNowhere g.K.PartialEq.eq ks slots c.args.key.now) c.as_slice.ensures.value c.in-None.ensures in
    rw (← c.self.view_is)
    (sym (none_found g.met.K.Ord.total keys slots c.self.inside.order.items c.self.invariant.ordered g.met.K.Ord.matches_eq c.self.invariant.even c.args.key.now g.met.K.Eq.laws none))
