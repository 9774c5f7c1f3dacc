use Rattle.std.proofs.Common.{sym, subst}
use Rattle.std.specs.Prelude.{IfOk}
use Rattle.jm_keep.specs.Calls.{AreRequested}
use Rattle.jm_changes.specs.Planned.{IsPlannedRequest}
use Rattle.jm_changes.proofs.listing.requested.Goals as goal

pub returns-in-Unsubscribe : goal.returns-in-Unsubscribe
returns-in-Unsubscribe g c =
    let state = g.P.Planned.state c.args.planned.now in
    let session = c.args.session.now in
    subst (λ r. IfOk c.unsubscribed.result (λ changes. AreRequested state session r changes.items)) (sym c.in-Unsubscribe.is)
    (c.unsubscribed.ensures session c.in-Unsubscribe.name (subst (λ r. IsPlannedRequest state session r (g.P.Planned.deletes c.args.planned.now) (g.P.Planned.puts c.args.planned.now) (g.P.Planned.takes c.args.planned.now)) c.in-Unsubscribe.is c.requires.planned))
