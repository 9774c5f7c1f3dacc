use Rattle.std.proofs.Common.{◌≡◌, ◌≤◌, All, map, length, take, vec_len, vec_capacity}
use Rattle.jm_stations.specs.Backlogs.{HasMoreRoom}
use Rattle.jm_parts.specs.declared.publish.Publication.{Publication}
use Rattle.jm_parts.specs.Publications.{IsReady}
use Rattle.jm_queues.specs.Queues.{HaveMoreRoom}
use Rattle.jm_parts.proofs.publish.prepare_publications.Given as goal

abbrev pub invariant-loop-message : goal.invariant-loop-message
invariant-loop-message l = record {
  messages : map (λ (x : Publication). x.message) l.publications.items ≡ take l.message-index l.messages;
  ready : All (IsReady (length l.messages) l.sessions.life l.subs.list l.stations l.queues) l.publications.items;
  keys : l.stations.keys ≡ l.fn.stations.keys;
  list : HasMoreRoom l.fn.stations.list l.stations.list;
  next_place : l.stations.next_place ≡ l.fn.stations.next_place;
  queues : HaveMoreRoom l.fn.queues l.queues;
  number : vec_len l.publications ≡ l.message-index;
  capacity : length l.messages ≤ vec_capacity l.publications;
}
