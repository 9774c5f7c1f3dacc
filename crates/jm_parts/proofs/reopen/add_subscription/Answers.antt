use Rattle.std.proofs.Common.{◌++◌, ◌∷◌, [], ap, ◌∙◌}
use Rattle.jm_sub.specs.Subscriptions as subs
use Rattle.jm_sub.specs.Subscriptions.{Subscription}
use Rattle.jm_parts.proofs.Reopening.{without_absent}
use Rattle.jm_parts.proofs.reopen.add_subscription.Goals as goal

pub returns-clause-subs : goal.returns-clause-subs
returns-clause-subs c =
    let d = c.in_ok-decision.decision in
    let s : Subscription = record { key = c.args.stored.key; definition = c.args.stored.definition } in
    let before = c.in_ok-decision.ensures.unchanged in
    let same = c.in_ok-decision.ensures.decided in
    let absent = without_absent c.args.stored.key c.args.subs.now.list c.args.stations.now.keys c.requires.same c.requires.absent in
    c.apply.ensures.list ∙ (λ i. subs.put (same i) (before i)) ∙ ap (λ xs. xs ++ s ∷ []) absent
