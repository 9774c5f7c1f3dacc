use Rattle.std.proofs.Common.{◌∙◌, ◌++◌, ap}
use Rattle.std.specs.Vec.Iter.{into_iter_items}
use Rattle.jm_parts.proofs.Reopening.{absent_next, same_made}
use Rattle.jm_parts.proofs.reopen.add_subscriptions.Goals as goal

pub add_subscription-requires-clause-same : goal.add_subscription-requires-clause-same
add_subscription-requires-clause-same c =
    let l = c.loop-subscription in
    same_made l.yielded l.subs.list l.stations.keys l.stations.list l.invariant.made

pub add_subscription-requires-clause-absent : goal.add_subscription-requires-clause-absent
add_subscription-requires-clause-absent c =
    let l = c.loop-subscription in
    let steps = c.in-Some.ensures.steps.0 in
    absent_next c.args.subscriptions.items l.yielded c.in-Some.subscription (into_iter_items c.next.new.self) l.stations.keys (l.invariant.subscriptions ∙ ap (λ rest. l.yielded ++ rest) steps) l.invariant.made.keys_are c.requires.once
