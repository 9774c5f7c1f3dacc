use Rattle.std.proofs.Common.{◌∙◌, ◌++◌, ◌∷◌, [], List, All, ap, length, subst, sym}
use Rattle.std.proofs.lemmas.List.Elements.{All-tail}
use Rattle.std.specs.Vec.Iter.{into_iter_items}
use Rattle.jm_parts.specs.declared.stored.StoredMessage.{StoredMessage}
use Rattle.jm_queues.specs.Queues.{rows_in}
use Rattle.jm_parts.specs.Reopening.{MayLoad}
use Rattle.jm_parts.proofs.Publishing.{list_assoc}
use Rattle.jm_parts.proofs.Reopening.{loaded_more, place_more, placed_left, queues_more}
use Rattle.jm_parts.proofs.reopen.load_messages.Goals as goal

pub loop-message-preserved : goal.loop-message-preserved
loop-message-preserved c =
    let l = c.loop-message in
    let w = c.loop-message.invariant in
    let m = c.in_ok-load.ensures in
    let x = c.in-Some.message in
    let n = length c.args.stations.now.list in
    let left = into_iter_items c.next.new.self in
    let all = into_iter_items c.loop-message.message-iterator in
    let steps = c.in-Some.ensures.steps.0 in
    record {
      messages = w.messages ∙ ap (λ rest. l.yielded ++ rest) steps ∙ list_assoc l.yielded (x ∷ []) left;
      keys = m.keys ∙ w.keys;
      list = loaded_more l.yielded x c.args.stations.now.list l.stations.list c.load.new.stations.list w.list m.list;
      queues = λ name. queues_more l.yielded x name (rows_in c.args.queues.now name) (rows_in l.queues name) (rows_in c.load.new.queues name) (w.queues name) (m.queues name);
      next_place = m.next_place ∙ sym (place_more c.args.stations.now.next_place l.yielded x);
      queue_place = m.queue_place;
      placed = placed_left l.stations.next_place c.load.new.stations.next_place x left all steps m.next_place w.placed;
      held = All-tail (λ (y : StoredMessage). MayLoad n y.holders) x left (subst (λ (ys : List StoredMessage). All (λ (y : StoredMessage). MayLoad n y.holders) ys) steps w.held);
    }
