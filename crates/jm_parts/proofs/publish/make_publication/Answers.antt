use Rattle.std.proofs.Common.{arith}
use Rattle.jm_queues.specs.Queues.{rows_in}
use Rattle.jm_parts.proofs.Publishing.{none_published, nothing_queued}
use Rattle.jm_parts.proofs.publish.make_publication.Goals as goal

pub publish-requires : goal.publish-requires
publish-requires c =
    let room = rw c.in-Subscriptions.is at c.requires.reserved in
    record {
      places = c.requires.places;
      messages = omega (arith, room.messages);
      within = rw c.deref.ensures.value room.subscriptions.within;
      once = rw c.deref.ensures.value room.subscriptions.once;
      rows = rw c.deref.ensures.value (λ k d l e. let r = room.subscriptions.room k d l e in omega (arith, r));
    }

pub returns-in-Subscriptions-clause-list : goal.returns-in-Subscriptions-clause-list
returns-in-Subscriptions-clause-list c = rw (c.in-Subscriptions.is, ← c.deref.ensures.value) c.publish.ensures.list

pub returns-in-Subscriptions-clause-queue_list : goal.returns-in-Subscriptions-clause-queue_list
returns-in-Subscriptions-clause-queue_list c = rw c.in-Subscriptions.is (none_published c.args.stations.now.next_place c.args.publication.message c.args.queues.now.list)

pub returns-in-Subscriptions-clause-queues : goal.returns-in-Subscriptions-clause-queues
returns-in-Subscriptions-clause-queues c = nothing_queued c.args.queues.now.keys c.args.publication.message.destination c.args.publication.message c.args.stations.now.next_place (rows_in c.args.queues.now) (rw c.in-Subscriptions.is at c.requires.queued)
