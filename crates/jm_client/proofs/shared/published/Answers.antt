use Rattle.std.proofs.Common.{sym}
use Rattle.jm_client.proofs.Causes.{refused_reply, told_step}
use Rattle.jm_client.proofs.shared.published.Goals as goal

pub returns-clause-fits : goal.returns-clause-fits
returns-clause-fits g c = rw c.publication_with_cause.ensures.same c.publish-reply.ensures.fits

pub returns-clause-told : goal.returns-clause-told
returns-clause-told g c =
    told_step _ _ _ _ _ _ c.publication_with_cause.ensures.same c.publish-reply.ensures.fits
    (rw c.core.ensures at (c.publication_with_cause.ensures.told c.args.message (sym c.sender-sender.ensures) (rw c.core.ensures (refused_reply _ _ _ _ _ c.publish-reply.ensures.fits))))

pub returns-clause-backend : goal.returns-clause-backend
returns-clause-backend g c = rw c.publication_with_cause.ensures.same c.publish-reply.ensures.backend
