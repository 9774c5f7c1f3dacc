use Rattle.std.proofs.Common.{ap, ◌≡◌, ◌∙◌, ◌++◌, ◌∷◌, [], sym}
use Rattle.jm_dest.specs.declared.key.Key.{Key}
use Rattle.jm_machine.specs.declared.state.Definition.{Definition}
use Rattle.jm_sub.specs.Entries.{subscription_of}
use Rattle.jm_sub.proofs.Listed.{new_next, subscriptions_next}
use Rattle.jm_sub.proofs.subs.copied.Goals as goal

pub add-requires-clause-new : goal.add-requires-clause-new
add-requires-clause-new c =
    let e : Key × Definition = (c.entry_at.result.0.now, c.entry_at.result.1.now) in
    let same : c.in_ok-decision.decision ≡ subscription_of e = c.in_ok-decision.ensures ∙ ap (λ d. subscription_of (c.entry_at.result.0.now, d)) c.get.ensures in
    rw (c.reserve.ensures.list, c.loop-at.invariant, same) (new_next c.args.items.now.entries c.loop-at.at e c.len-at-end.ensures.once c.entry_at.ensures)

pub loop-at-preserved : goal.loop-at-preserved
loop-at-preserved c =
    let e : Key × Definition = (c.entry_at.result.0.now, c.entry_at.result.1.now) in
    let same : c.in_ok-decision.decision ≡ subscription_of e = c.in_ok-decision.ensures ∙ ap (λ d. subscription_of (c.entry_at.result.0.now, d)) c.get.ensures in
    let before = c.reserve.ensures.list ∙ c.loop-at.invariant in
    c.add.ensures.list ∙ (λ i. before i ++ same i ∷ []) ∙ sym (subscriptions_next c.args.items.now.entries c.loop-at.at e c.entry_at.ensures)
