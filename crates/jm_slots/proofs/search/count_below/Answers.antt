use Rattle.std.proofs.Common.{◌+◌, ◌-◌, ◌/◌, ◌<◌, ℕ, arith, length}
use Rattle.jm_slots.proofs.Rising.{spread}
use Rattle.jm_slots.proofs.search.count_below.Goals as goal

pub loop-low-preserved-then-gaps-middle : goal.loop-low-preserved-then-gaps-middle
loop-low-preserved-then-gaps-middle c =
    let middle : ℕ = c.loop-low.low + (c.loop-low.high - c.loop-low.low) / 2 in
    let inside : middle < c.loop-low.high = omega arith in
    let within : middle < length c.args.gaps.now = omega (arith, inside, c.loop-low.invariant.within) in
    record {
      ends = omega (arith, inside);
      within = c.loop-low.invariant.within;
      below = λ k l. omega (arith, spread c.args.gaps.now c.requires k middle (omega (arith, l)) within, c.if-gaps-middle.true);
      behind = c.loop-low.invariant.behind;
    }

pub loop-low-preserved : goal.loop-low-preserved
loop-low-preserved c =
    let middle : ℕ = c.loop-low.low + (c.loop-low.high - c.loop-low.low) / 2 in
    let inside : middle < c.loop-low.high = omega arith in
    let within : middle < length c.args.gaps.now = omega (arith, inside, c.loop-low.invariant.within) in
    record {
      ends = omega arith;
      within = omega (arith, within);
      below = c.loop-low.invariant.below;
      behind = λ k l m. omega (arith, spread c.args.gaps.now c.requires middle k l m, c.if-gaps-middle.false);
    }
