use Rattle.std.proofs.Common.{◌∙◌, ◌+◌, ◌-◌, ◌/◌, ◌<◌, ℕ, arith, sym}
use Rattle.jm_property.specs.Same.{names_of}
use Rattle.jm_property.proofs.Orders.{low_half, high_half}
use Rattle.jm_property.proofs.order.count_before.Goals as goal

pub loop-low-preserved-then-is_name_before : goal.loop-low-preserved-then-is_name_before
loop-low-preserved-then-is_name_before c =
    let middle : ℕ = c.loop-low.low + (c.loop-low.high - c.loop-low.low) / 2 in
    let inside : middle < c.loop-low.high = omega arith in
    record {
      ends = omega (arith, inside);
      within = c.loop-low.invariant.within;
      before = low_half (names_of c.args.entries.now) c.args.order.now c.requires c.args.name.now middle (omega (arith, inside, c.loop-low.invariant.within)) (sym c.is_name_before.ensures ∙ c.if-is_name_before.true);
      behind = c.loop-low.invariant.behind;
    }

pub loop-low-preserved : goal.loop-low-preserved
loop-low-preserved c =
    let middle : ℕ = c.loop-low.low + (c.loop-low.high - c.loop-low.low) / 2 in
    let inside : middle < c.loop-low.high = omega arith in
    record {
      ends = omega arith;
      within = omega (arith, inside, c.loop-low.invariant.within);
      before = c.loop-low.invariant.before;
      behind = high_half (names_of c.args.entries.now) c.args.order.now c.requires c.args.name.now middle (omega (arith, inside, c.loop-low.invariant.within)) (sym c.is_name_before.ensures ∙ c.if-is_name_before.false);
    }
