use Rattle.std.proofs.Common.{◌-◌, ◌≤◌, None, length, sym, arith, rules}
use Rattle.jm_eval.proofs.Backwards.{back_more, back_fails, back_done}
use Rattle.jm_eval.proofs.items.is_end.Goals as goal

pub returns-then-not-fits_place : goal.returns-then-not-fits_place
returns-then-not-fits_place c =
    sym (back_fails c.args.places.now c.loop-count.count None _ _ c.loop-count-test.true c.loop-count.invariant.1 c.loop-count.invariant.0 _ c.in-Some.c c.in-Some.ensures (grind arith))

pub loop-count-preserved : goal.loop-count-preserved
loop-count-preserved c =
    let within : c.loop-count.count - 1 ≤ length c.args.places.now = omega (arith, c.loop-count.invariant.1) in (
      back_more c.args.places.now c.loop-count.count None _ _ c.loop-count-test.true c.loop-count.invariant.1 c.loop-count.invariant.0 _ c.in-Some.c c.in-Some.ensures (grind arith),
      within,
      search rules,
    )

pub returns : goal.returns
returns c = sym (back_done c.args.places.now c.loop-count.count _ _ (omega (arith, c.loop-count-test.false)) c.loop-count.invariant.0)
