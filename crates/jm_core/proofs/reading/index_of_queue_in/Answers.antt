use Rattle.std.proofs.Common.{sym}
use Rattle.jm_plans.proofs.Planned.{of_parts}
use Rattle.jm_core.proofs.ReadKeys.{queue_at, queue_missing}
use Rattle.jm_core.proofs.reading.index_of_queue_in.Goals as goal

pub returns-in-None : goal.returns-in-None
returns-in-None c =
    let i = c.core.inside in
    let p = of_parts i.opening i.limit i.sessions i.subs i.stations i.queues in
    rw (← c.core.view_is) (queue_missing i.limit i.stations.next_place p c.core.invariant.0 c.args.key.now c.requires (sym c.in-None.ensures.index))

pub returns-in-Some : goal.returns-in-Some
returns-in-Some c =
    let i = c.core.inside in
    let p = of_parts i.opening i.limit i.sessions i.subs i.stations i.queues in
    rw (c.len-subscriptions.ensures.keys, ← c.core.view_is) (queue_at i.limit i.stations.next_place p c.core.invariant.0 c.args.key.now c.in-Some.index (sym c.in-Some.ensures.index))
