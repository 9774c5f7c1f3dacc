use Rattle.std.proofs.Common.{◌≡◌, ◌≤◌, ◌++◌, ℕ, List, All, length}
use Rattle.std.specs.Vec.Iter.{into_iter_items}
use Rattle.jm_parts.specs.declared.stored.StoredMessage.{StoredMessage}
use Rattle.jm_queues.specs.Queues.{rows_in}
use Rattle.jm_parts.specs.Reopening.{HaveLoaded, MayLoad}
use Rattle.jm_parts.specs.Stored.{ArePlaced, place_after, rows_at}
use Rattle.jm_parts.proofs.reopen.load_messages.Given as goal

abbrev pub invariant-loop-message : goal.invariant-loop-message
invariant-loop-message l = record {
  messages : l.fn.messages.items ≡ l.yielded ++ into_iter_items l.message-iterator;
  keys : l.stations.keys ≡ l.fn.stations.keys;
  list : HaveLoaded l.yielded l.fn.stations.list l.stations.list;
  queues : (name : List ℕ) → rows_in l.queues name ≡ rows_in l.fn.queues name ++ rows_at l.yielded name;
  next_place : l.stations.next_place ≡ place_after l.fn.stations.next_place l.yielded;
  queue_place : l.queues.next_place ≤ l.stations.next_place;
  placed : ArePlaced l.stations.next_place (into_iter_items l.message-iterator);
  held : All (λ (m : StoredMessage). MayLoad (length l.fn.stations.list) m.holders) (into_iter_items l.message-iterator);
}
