use Rattle.std.proofs.Common.{refl, arith}
use Rattle.jm_listen.specs.Turns.{none}
use Rattle.jm_listen.proofs.Ran.{ran_on}
use Rattle.jm_listen.proofs.served.work.Goals as goal

pub loop-number-init : goal.loop-number-init
loop-number-init g c = record { ran = record { session = refl; consumer = refl; ran = none }; small = omega arith }

pub loop-number-preserved : goal.loop-number-preserved
loop-number-preserved g c = record {
  ran = ran_on _ _ _ _ _ _ c.loop-number.invariant.ran c.turn.ensures.turned;
  small = omega (arith, c.turn.ensures.small);
}
