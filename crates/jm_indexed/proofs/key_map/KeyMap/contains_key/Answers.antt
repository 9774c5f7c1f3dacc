use Rattle.std.proofs.Common.{◌∙◌, subst}
use Rattle.std.specs.Prelude.{MatchOption}
use Rattle.jm_indexed.specs.Order.{IsNowhere, IsSlotOf}
use Rattle.jm_indexed.proofs.Distinct.{some_found}
use Rattle.jm_indexed.proofs.key_map.KeyMap.contains_key.Goals as goal

pub returns : goal.returns
returns g c =
    let keys = c.self.inside.keys.items in
    let slots = c.self.inside.values.slots in
    let key = c.args.key.now in
    let slot = c.find_slot.result in
    let found = subst (λ ks. MatchOption slot (IsNowhere g.K.PartialEq.eq ks slots key) (IsSlotOf g.K.PartialEq.eq ks slots key)) c.as_slice.ensures.value c.find_slot.ensures in
    rw (← c.self.view_is)
    (c.is_some.ensures
    ∙ some_found g.met.K.Ord.total keys slots c.self.inside.order.items c.self.invariant.ordered g.met.K.Ord.matches_eq c.self.invariant.even key g.met.K.Eq.laws slot found)
