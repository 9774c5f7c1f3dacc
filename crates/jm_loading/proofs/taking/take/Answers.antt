use Rattle.jm_loading.proofs.More.{if_ok_then}
use Rattle.jm_loading.proofs.Paired.{can_here}
use Rattle.jm_loading.proofs.Taken.{takes}
use Rattle.jm_loading.proofs.taking.take.Goals as goal

pub returns-in-Some-clause-takes : goal.returns-in-Some-clause-takes
returns-in-Some-clause-takes c = if_ok_then c.hold.result _ _ c.hold.ensures.more (λ is h t.
    takes c.args.stations.now.subscriptions.items c.args.row.now c.args.messages.now c.in-Some.at c.index-messages-at.result c.hold.new.message c.in-Some.ensures.within c.in-Some.ensures.there (h t))

pub returns-in-Some-clause-must : goal.returns-in-Some-clause-must
returns-in-Some-clause-must c placed = if_ok_then c.hold.result _ _ c.hold.ensures.must (λ is h can.
    h (can_here c.args.stations.now.queues.items c.args.stations.now.subscriptions.items c.args.row.now c.args.messages.now c.in-Some.at c.index-messages-at.result placed c.in-Some.ensures.within c.index-messages-at.is c.in-Some.ensures.there can))
