use Rattle.std.proofs.Common.{◌+◌, ◌-◌, ◌/◌, ◌<◌, ℕ, arith, length}
use Rattle.jm_slots.proofs.Rising.{place_below, spread}
use Rattle.jm_slots.proofs.search.count_passed.Goals as goal

pub overflow_sub-gaps : goal.overflow_sub-gaps
overflow_sub-gaps c =
    let middle : ℕ = c.loop-low.low + (c.loop-low.high - c.loop-low.low) / 2 in
    let inside : middle < c.loop-low.high = omega arith in
    place_below c.args.gaps.now c.requires middle (omega (arith, inside, c.loop-low.invariant.within))

pub loop-low-preserved-then-gaps-middle : goal.loop-low-preserved-then-gaps-middle
loop-low-preserved-then-gaps-middle c =
    let middle : ℕ = c.loop-low.low + (c.loop-low.high - c.loop-low.low) / 2 in
    let inside : middle < c.loop-low.high = omega arith in
    let within : middle < length c.args.gaps.now = omega (arith, inside, c.loop-low.invariant.within) in
    record {
      ends = omega (arith, inside);
      within = c.loop-low.invariant.within;
      passed = λ k l. omega (arith, spread c.args.gaps.now c.requires k middle (omega (arith, l)) within, place_below c.args.gaps.now c.requires middle within, c.if-gaps-middle.true, l);
      ahead = c.loop-low.invariant.ahead;
    }

pub loop-low-preserved : goal.loop-low-preserved
loop-low-preserved c =
    let middle : ℕ = c.loop-low.low + (c.loop-low.high - c.loop-low.low) / 2 in
    let inside : middle < c.loop-low.high = omega arith in
    let within : middle < length c.args.gaps.now = omega (arith, inside, c.loop-low.invariant.within) in
    record {
      ends = omega arith;
      within = omega (arith, within);
      passed = c.loop-low.invariant.passed;
      ahead = λ k l m. omega (arith, spread c.args.gaps.now c.requires middle k l m, c.if-gaps-middle.false, l);
    }
