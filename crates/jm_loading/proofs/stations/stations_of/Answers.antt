use Rattle.jm_loading.proofs.Sorted.{are_subscriptions, searchable}
use Rattle.jm_loading.proofs.stations.stations_of.Goals as goal

pub returns-clause-durable : goal.returns-clause-durable
returns-clause-durable c =
    rw c.in_ok-sorted.ensures.subscriptions (rw c.deref.ensures.value at (are_subscriptions _ c.in_ok-check.ensures.fit))

pub returns-clause-sorted : goal.returns-clause-sorted
returns-clause-sorted c =
    rw (c.in_ok-sorted.ensures.queues, c.in_ok-sorted.ensures.subscriptions) (rw c.deref.ensures.value at (searchable _ c.in_ok-check.ensures.fit))
