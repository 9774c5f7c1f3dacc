use Rattle.std.proofs.Common.{◌∙◌, ◌∷◌, [], refl, subst, sym}
use Rattle.jm_queues.specs.Queues.{IsQueued}
use Rattle.jm_parts.proofs.Publishing.{none_reserved, none_routed}
use Rattle.jm_parts.proofs.publish.prepare_goal.Goals as goal

pub returns-in_ok-reserve-in-Queue-clause-ready : goal.returns-in_ok-reserve-in-Queue-clause-ready
returns-in_ok-reserve-in-Queue-clause-ready c =
    let e = c.in_ok-reserve-in-Queue.ensures in
    let i = c.in_ok-reserve-in-Queue.field-0 in
    let sent = sym c.destination.ensures ∙ c.in-Queue.is in
    record {
      room = record { subscriptions = none_reserved c.args.additional c.args.stations.now.list; queue = e.reserved; messages = e.messages };
      aimed = record {
        routed = none_routed c.args.sessions.now.life c.args.subs.now.list c.args.message.now c.in-Queue.name sent;
        queued = subst (λ d. IsQueued c.reserve.new.self.keys d (i ∷ [])) (sym sent) (i, refl, e.there);
      };
    }

pub returns-in_ok-prepare_subscriptions-in-Topic-clause-ready : goal.returns-in_ok-prepare_subscriptions-in-Topic-clause-ready
returns-in_ok-prepare_subscriptions-in-Topic-clause-ready c =
    let e = c.in_ok-prepare_subscriptions-in-Topic.ensures in
    let sent = sym c.destination.ensures ∙ c.in-Topic.is in
    record {
      room = record { subscriptions = e.reserved; queue = none_reserved c.args.additional c.args.queues.now.list; messages = e.messages };
      aimed = record { routed = e.routed; queued = subst (λ d. IsQueued c.args.queues.now.keys d []) (sym sent) refl };
    }
