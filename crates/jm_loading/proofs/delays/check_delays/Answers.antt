use Rattle.std.proofs.Common.{rules}
use Rattle.jm_loading.specs.Delays.{IsDelay}
use Rattle.jm_loading.specs.Fitting.{delay_cmp}
use Rattle.jm_loading.proofs.Unfit.{fit_next, fit_none}
use Rattle.jm_loading.proofs.delays.check_delays.Goals as goal

pub loop-at-init : goal.loop-at-init
loop-at-init c = fit_none delay_cmp (IsDelay c.args.messages.now) c.args.delays.now

pub loop-at-preserved : goal.loop-at-preserved
loop-at-preserved c = fit_next delay_cmp (IsDelay c.args.messages.now) c.args.delays.now c.loop-at.at c.loop-at.invariant (c.fits.ensures.0 (search rules))
