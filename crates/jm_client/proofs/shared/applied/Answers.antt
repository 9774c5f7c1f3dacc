use Rattle.jm_client.proofs.Causes.{refused_reply, told_step}
use Rattle.jm_client.proofs.shared.applied.Goals as goal

pub with_cause-requires : goal.with_cause-requires
with_cause-requires g c = rw c.core.ensures (refused_reply _ _ _ _ _ c.apply-reply.ensures.fits)

pub returns-clause-fits : goal.returns-clause-fits
returns-clause-fits g c = rw c.with_cause.ensures.same c.apply-reply.ensures.fits

pub returns-clause-told : goal.returns-clause-told
returns-clause-told g c = told_step _ _ _ _ _ _ c.with_cause.ensures.same c.apply-reply.ensures.fits (rw c.core.ensures at c.with_cause.ensures.told)

pub returns-clause-backend : goal.returns-clause-backend
returns-clause-backend g c = rw c.with_cause.ensures.same c.apply-reply.ensures.backend
