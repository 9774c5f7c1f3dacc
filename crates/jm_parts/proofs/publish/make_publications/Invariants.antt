use Rattle.std.proofs.Common.{◌≡◌, ◌≤◌, ◌+◌, ◌++◌, All, length, map}
use Rattle.std.specs.Vec.Iter.{into_iter_items}
use Rattle.jm_parts.specs.declared.publish.Publication.{Publication}
use Rattle.jm_parts.specs.Publications.{ArePublished, HasRoom, queue_indexes}
use Rattle.jm_queues.specs.Queues.{IsQueued, published_queues, rows_in}
use Rattle.jm_parts.proofs.publish.make_publications.Given as goal

abbrev pub invariant-loop-publication : goal.invariant-loop-publication
invariant-loop-publication l = record {
  publications : l.fn.publications.items ≡ l.yielded ++ into_iter_items l.publication-iterator;
  made : ArePublished l.yielded l.fn.stations.next_place l.fn.stations.list l.stations.list;
  keys : l.stations.keys ≡ l.fn.stations.keys;
  next_place : l.stations.next_place ≡ l.fn.stations.next_place + length l.yielded;
  queues : rows_in l.queues ≡ published_queues l.fn.stations.next_place (map (λ (x : Publication). x.message) l.yielded) (rows_in l.fn.queues);
  queue_place : l.queues.next_place ≤ l.stations.next_place;
  reserved : All (λ (x : Publication). HasRoom (length (into_iter_items l.publication-iterator)) l.stations l.queues x.goal) (into_iter_items l.publication-iterator);
  queued : All (λ (x : Publication). IsQueued l.queues.keys x.message.destination (queue_indexes x.goal)) (into_iter_items l.publication-iterator);
}
