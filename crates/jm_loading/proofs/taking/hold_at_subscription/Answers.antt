use Rattle.std.proofs.Common.{sym, subst}
use Rattle.jm_parts.specs.declared.stored.StoredSubscription.{StoredSubscription}
use Rattle.jm_loading.specs.Holding.{IsHeldUnder}
use Rattle.jm_loading.proofs.More.{if_ok_then, under_row}
use Rattle.jm_loading.proofs.Paired.{can_under}
use Rattle.jm_loading.proofs.taking.hold_at_subscription.Goals as goal

pub returns-clause-more : goal.returns-clause-more
returns-clause-more c =
    let found = c.in-Some.ensures in
    let s = c.index-subscriptions-index in
    if_ok_then c.hold_under.result _ _ c.hold_under.ensures.held (λ is h t.
    under_row c.args.subscriptions.now c.args.key.now c.in-Some.index c.args.count c.args.message.now c.hold_under.new.message s.result c.requires.durable found.within s.is found.there
    (subst (λ (x : StoredSubscription). IsHeldUnder x.definition (record { index = c.in-Some.index; count = c.args.count }) c.args.message.now c.hold_under.new.message) (sym s.is) (h t)))

pub returns-clause-must : goal.returns-clause-must
returns-clause-must c =
    let s = c.index-subscriptions-index in
    if_ok_then c.hold_under.result _ _ c.hold_under.ensures.fits (λ is h can.
    let parts = can_under c.args.subscriptions.now c.args.key.now c.args.count c.args.message.now c.in-Some.index s.result s.is c.in-Some.ensures.alone can in
    h (rw s.is at parts.0) parts.1 parts.2)
