use Rattle.jm_loading.specs.Fitting.{IsPlaced, message_cmp}
use Rattle.jm_loading.specs.Unfit.{AreFit}
use Rattle.jm_loading.proofs.messages.check.Given as goal

abbrev pub invariant-loop-at : goal.invariant-loop-at
invariant-loop-at l = AreFit message_cmp IsPlaced l.rows l.at
