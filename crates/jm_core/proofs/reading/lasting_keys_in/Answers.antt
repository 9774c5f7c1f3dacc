use Rattle.std.proofs.Common.{List, subst, sym}
use Rattle.jm_dest.specs.declared.key.Key.{Key}
use Rattle.jm_plans.specs.Provider.{state_of}
use Rattle.jm_core.specs.Reading.{AreLasting}
use Rattle.jm_parts.proofs.NextRows.{when_ok}
use Rattle.jm_plans.proofs.Planned.{of_parts}
use Rattle.jm_core.proofs.ReadKeys.{lasting_queue, lasting_subscriptions}
use Rattle.jm_core.proofs.reading.lasting_keys_in.Goals as goal

pub returns-in-Queue : goal.returns-in-Queue
returns-in-Queue c =
    let i = c.core.inside in
    let p = of_parts i.opening i.limit i.sessions i.subs i.stations i.queues in
    let m = c.args.publication.now.message in
    let h = rw (← c.core.view_is) at c.requires in
    let routed = rw c.in-Queue.is at h.1.aimed.routed in
    let queued = rw c.in-Queue.is at h.1.aimed.queued in
    let k = c.key_at.result.now in
    let there = c.key_at.ensures k in
    let lasting = lasting_queue i.limit i.stations.next_place p c.core.invariant.0 m c.in-Queue.index k k routed queued there in
    rw (← c.core.view_is) (when_ok _ _ (λ keys e. subst (λ (ks : List Key). AreLasting (state_of p) m ks) (sym e) lasting) c.one_key.result c.one_key.ensures)

pub returns-in-Subscriptions : goal.returns-in-Subscriptions
returns-in-Subscriptions c =
    let i = c.core.inside in
    let p = of_parts i.opening i.limit i.sessions i.subs i.stations i.queues in
    let m = c.args.publication.now.message in
    let is = c.in-Subscriptions.indexes.items in
    let h = rw (← c.core.view_is) at c.requires in
    let routed = rw c.in-Subscriptions.is at h.1.aimed.routed in
    let queued = rw c.in-Subscriptions.is at h.1.aimed.queued in
    let within = rw c.in-Subscriptions.is at h.1.room.subscriptions.within in
    let lasting = lasting_subscriptions i.limit i.stations.next_place p c.core.invariant.0 m is routed within queued in
    rw (← c.core.view_is) (when_ok _ _ (λ keys e. subst (λ (ks : List Key). AreLasting (state_of p) m ks) (sym (rw c.deref.ensures.value at e)) lasting) c.durable_keys.result c.durable_keys.ensures)
