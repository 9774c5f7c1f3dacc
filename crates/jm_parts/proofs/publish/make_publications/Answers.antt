use Rattle.std.proofs.Common.{◌∙◌, ◌++◌, ◌∷◌, [], ap, arith, length-append}
use Rattle.std.specs.Vec.Iter.{into_iter_items}
use Rattle.jm_queues.specs.Queues.{rows_in}
use Rattle.jm_parts.proofs.Publishing.{IsMade, are_published_push, first_queued, first_room, list_assoc, others_queued, others_room, queues_push}
use Rattle.jm_parts.proofs.publish.make_publications.Goals as goal

pub make_publication-requires-clause-reserved : goal.make_publication-requires-clause-reserved
make_publication-requires-clause-reserved c =
    first_room c.loop-publication.stations c.loop-publication.queues c.in-Some.publication (into_iter_items c.next.new.self) (into_iter_items c.loop-publication.publication-iterator) c.in-Some.ensures.steps.0 c.loop-publication.invariant.reserved

pub make_publication-requires-clause-queued : goal.make_publication-requires-clause-queued
make_publication-requires-clause-queued c =
    first_queued c.loop-publication.queues.keys c.in-Some.publication (into_iter_items c.next.new.self) (into_iter_items c.loop-publication.publication-iterator) c.in-Some.ensures.steps.0 c.loop-publication.invariant.queued

pub loop-publication-preserved : goal.loop-publication-preserved
loop-publication-preserved c =
    let w = c.loop-publication.invariant in
    let m = c.make_publication.ensures in
    let x = c.in-Some.publication in
    let old = c.loop-publication.stations in
    let new = c.make_publication.new.stations in
    let queues = c.loop-publication.queues in
    let after = c.make_publication.new.queues in
    let yielded = c.loop-publication.yielded in
    let left = into_iter_items c.next.new.self in
    let all = into_iter_items c.loop-publication.publication-iterator in
    let steps = c.in-Some.ensures.steps.0 in
    let more = length-append yielded (x ∷ []) in
    let made : IsMade x old.next_place old queues new after = record { list = m.list; room = m.room; queue_list = m.queue_list; queue_room = m.queue_room } in
    record {
      publications = w.publications ∙ ap (λ rest. yielded ++ rest) steps ∙ list_assoc yielded (x ∷ []) left;
      made = are_published_push yielded x c.args.stations.now.next_place old.next_place c.args.stations.now.list old.list new.list w.next_place w.made m.list;
      keys = m.keys ∙ w.keys;
      next_place = omega (arith, more, w.next_place, m.next_place);
      queues = queues_push yielded x c.args.stations.now.next_place old.next_place (rows_in c.args.queues.now) (rows_in queues) (rows_in after) w.next_place w.queues m.queues;
      queue_place = m.queue_place;
      reserved = others_room old.next_place old queues new after x left all steps made w.reserved;
      queued = others_queued queues.keys after.keys x left all steps m.queue_keys w.queued;
    }
