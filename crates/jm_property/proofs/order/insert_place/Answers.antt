use Rattle.std.proofs.Common.{◌++◌, ◌∷◌, ◌∙◌, [], sym, subst}
use Rattle.std.specs.List.{insert}
use Rattle.jm_property.specs.Order.{IsOrder}
use Rattle.jm_property.specs.Same.{names_of}
use Rattle.jm_property.proofs.Orders.{IsOrder-insert}
use Rattle.jm_property.proofs.Tables.{names_length}
use Rattle.jm_property.proofs.order.insert_place.Goals as goal

pub returns-clause-ok : goal.returns-clause-ok
returns-clause-ok c =
    let counted = c.count_before-at.ensures in
    let names = names_of c.args.entries.now in
    let lent = c.deref.ensures.value in
    subst (IsOrder (names ++ c.args.name.now ∷ [])) ((λ i. insert (lent i) c.count_before-at.result (names_length c.args.entries.now i)) ∙ sym c.in_ok-insert.ensures.items)
    (IsOrder-insert names c.deref.result.now (subst (IsOrder names) (sym lent) c.requires) c.args.name.now c.count_before-at.result counted.within counted.before counted.behind)
