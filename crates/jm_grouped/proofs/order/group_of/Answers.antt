use Rattle.jm_grouped.proofs.Orders.{IsGroup-between}
use Rattle.jm_grouped.proofs.order.group_of.Goals as goal

pub returns : goal.returns
returns g c =
    let first = c.count_before-first.ensures in
    let end = c.count_before-end.ensures in
    IsGroup-between g.met.T.Ord.total c.args.items.now c.args.order.now c.requires c.args.value.now c.count_before-first.result c.count_before-end.result first.before first.behind end.before end.behind first.within end.within g.met.T.Ord.matches_eq
