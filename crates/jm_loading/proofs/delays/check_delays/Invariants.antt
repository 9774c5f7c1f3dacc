use Rattle.jm_loading.specs.Delays.{IsDelay}
use Rattle.jm_loading.specs.Fitting.{delay_cmp}
use Rattle.jm_loading.specs.Unfit.{AreFit}
use Rattle.jm_loading.proofs.delays.check_delays.Given as goal

abbrev pub invariant-loop-at : goal.invariant-loop-at
invariant-loop-at l = AreFit delay_cmp (IsDelay l.messages) l.delays l.at
