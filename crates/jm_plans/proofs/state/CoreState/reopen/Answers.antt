use Rattle.std.proofs.Common.{◌∙◌, ap, refl, rules}
use Rattle.jm_queues.specs.Queues.{rows_in}
use Rattle.jm_parts.specs.Stored.{place_after, rows_at}
use Rattle.jm_plans.proofs.Opens.{opens}
use Rattle.jm_plans.proofs.Restored.{made_unlimited, stored_queues, stored_seen, stored_sound}
use Rattle.jm_plans.proofs.state.CoreState.reopen.Goals as goal

pub returns-in_err-add_subscriptions-clause-err : goal.returns-in_err-add_subscriptions-clause-err
returns-in_err-add_subscriptions-clause-err c =
    rw (opens c.args.opening c.args.held_limit c.is_limit.result c.in_ok-opening.ensures.1 c.is_limit.ensures c.if-not-is_limit.false) (search rules)

pub load_messages-requires-clause-unlimited : goal.load_messages-requires-clause-unlimited
load_messages-requires-clause-unlimited c =
    made_unlimited c.args.subscriptions.items c.add_subscriptions.new.subs.list c.add_subscriptions.new.stations.keys c.add_subscriptions.new.stations.list c.in_ok-add_subscriptions.ensures.made

pub invariant_of-result : goal.invariant_of-result
invariant_of-result c =
    let made = c.in_ok-add_subscriptions.ensures in
    let come = c.in_ok-load_messages.ensures in
    let next = come.next_place ∙ ap (λ n. place_after n c.args.messages.items) (made.next_place ∙ c.new-stations.ensures.next_place) in (
      rw (c.new-2.ensures.consumers, come.keys, next) (stored_sound c.args.held_limit c.args.subscriptions.items c.args.messages.items c.add_subscriptions.new.subs.list c.add_subscriptions.new.stations.keys c.add_subscriptions.new.stations.list c.load_messages.new.stations.list c.requires made.made come.list),
      come.queue_place,
    )

pub returns-clause-ok : goal.returns-clause-ok
returns-clause-ok c =
    let made = c.in_ok-add_subscriptions.ensures in
    let come = c.in_ok-load_messages.ensures in
    let next = come.next_place ∙ ap (λ n. place_after n c.args.messages.items) (made.next_place ∙ c.new-stations.ensures.next_place) in
    let stations = stored_seen c.args.subscriptions.items c.args.messages.items c.add_subscriptions.new.subs.list c.add_subscriptions.new.stations.keys c.add_subscriptions.new.stations.list c.load_messages.new.stations.list made.made come.list in
    let queues = stored_queues c.args.messages.items c.new-queues.result c.load_messages.new.queues c.new-queues.ensures.keys come.queues in (
      rw (c.in_ok-opening.ensures.0, c.new-2.ensures.life, c.new-2.ensures.consumers, stations, queues, next) refl,
      opens c.args.opening c.args.held_limit c.is_limit.result c.in_ok-opening.ensures.1 c.is_limit.ensures c.if-not-is_limit.false,
    )
