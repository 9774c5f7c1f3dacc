use Rattle.std.proofs.Common.{rules}
use Rattle.jm_loading.specs.Fitting.{IsPlaced, message_cmp}
use Rattle.jm_loading.proofs.Unfit.{fit_next, fit_none}
use Rattle.jm_loading.proofs.messages.check.Goals as goal

pub loop-at-init : goal.loop-at-init
loop-at-init c = fit_none message_cmp IsPlaced c.args.rows.now

pub loop-at-preserved : goal.loop-at-preserved
loop-at-preserved c = fit_next message_cmp IsPlaced c.args.rows.now c.loop-at.at c.loop-at.invariant (c.fits.ensures.0 (search rules))
