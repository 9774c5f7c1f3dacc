use Rattle.std.proofs.Common.{◌∙◌, arith, length}
use Rattle.jm_parts.proofs.Stations.{room_again}
use Rattle.jm_queues.proofs.QueueRows.{queues_again}
use Rattle.jm_parts.proofs.Publishing.{messages_more, ready_push}
use Rattle.jm_parts.proofs.publish.prepare_publications.Goals as goal

pub loop-message-preserved : goal.loop-message-preserved
loop-message-preserved c =
    let w = c.loop-message.invariant in
    let h = c.in_ok-publication.ensures in
    let old = c.loop-message.stations in
    let new = c.prepare_copy.new.stations in
    let queues = c.loop-message.queues in
    let after = c.prepare_copy.new.queues in
    let x = c.in_ok-publication.publication in
    record {
      messages = rw c.push_reserved.ensures.items (messages_more c.loop-message.publications.items x c.loop-message.message-index c.args.messages.now c.message-item.result c.loop-message-test.true c.message-item.is w.messages h.message);
      ready = rw c.push_reserved.ensures.items (ready_push (length c.args.messages.now) c.args.sessions.now.life c.args.subs.now.list old queues new after c.loop-message.publications.items x h.list h.room h.queues w.ready h.ready);
      keys = h.keys ∙ w.keys;
      list = room_again c.args.stations.now.list old.list new.list w.list h.list;
      next_place = h.next_place ∙ w.next_place;
      queues = queues_again c.args.queues.now queues after w.queues h.queues;
      number = omega (arith, c.push_reserved.ensures.len, w.number);
      capacity = omega (arith, c.push_reserved.ensures.capacity, w.capacity);
    }

pub returns-in_err-publication-clause-queues : goal.returns-in_err-publication-clause-queues
returns-in_err-publication-clause-queues c = queues_again c.args.queues.now c.loop-message.queues c.prepare_copy.new.queues c.loop-message.invariant.queues c.in_err-publication.ensures.queues
