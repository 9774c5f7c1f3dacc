use Rattle.std.proofs.Common.{None, arith, rules}
use Rattle.jm_eval.proofs.Places.{past_more, past_ends}
use Rattle.jm_eval.proofs.items.past.Goals as goal

pub returns-in-None : goal.returns-in-None
returns-in-None c = past_ends c.args.places.now c.loop-place.place-index None _ _ c.loop-place-test.true c.loop-place.invariant.0 c.in-None.ensures

pub loop-place-preserved : goal.loop-place-preserved
loop-place-preserved c = (
  past_more c.args.places.now c.loop-place.place-index None _ _ c.loop-place-test.true c.loop-place.invariant.0 c.in-Some.c _ c.in-Some.ensures (grind arith),
  search rules,
)
