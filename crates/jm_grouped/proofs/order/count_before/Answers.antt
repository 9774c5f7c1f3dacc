use Rattle.std.proofs.Common.{◌∙◌, ◌+◌, ◌-◌, ◌/◌, ◌<◌, ℕ, arith, length, get_or}
use Rattle.std.proofs.lemmas.List.{get_or_read}
use Rattle.jm_grouped.proofs.Orders.{high_half, low_half, told}
use Rattle.jm_grouped.proofs.order.count_before.Goals as goal

pub loop-low-preserved-then-counts : goal.loop-low-preserved-then-counts
loop-low-preserved-then-counts g c =
    let middle : ℕ = c.loop-low.low + (c.loop-low.high - c.loop-low.low) / 2 in
    let inside : middle < c.loop-low.high = omega arith in
    let within : middle < length c.args.order.now = omega (arith, inside, c.loop-low.invariant.within) in
    let read = get_or_read c.args.items.now (get_or c.args.order.now middle 0) c.index-items-order.result (c.requires.within middle 0 within) c.index-items-order.is c.args.value.now in
    let tested = told g.T.Ord.cmp c.args.and_equal c.args.value.now c.index-items-order.result (get_or c.args.items.now (get_or c.args.order.now middle 0) c.args.value.now) c.cmp.result c.counts.result read c.cmp.ensures c.counts.ensures in
    record {
      ends = omega (arith, inside);
      within = c.loop-low.invariant.within;
      before = low_half g.met.T.Ord.total c.args.items.now c.args.order.now c.requires c.args.value.now c.args.and_equal middle within (tested ∙ c.if-counts.true);
      behind = c.loop-low.invariant.behind;
    }

pub loop-low-preserved : goal.loop-low-preserved
loop-low-preserved g c =
    let middle : ℕ = c.loop-low.low + (c.loop-low.high - c.loop-low.low) / 2 in
    let inside : middle < c.loop-low.high = omega arith in
    let within : middle < length c.args.order.now = omega (arith, inside, c.loop-low.invariant.within) in
    let read = get_or_read c.args.items.now (get_or c.args.order.now middle 0) c.index-items-order.result (c.requires.within middle 0 within) c.index-items-order.is c.args.value.now in
    let tested = told g.T.Ord.cmp c.args.and_equal c.args.value.now c.index-items-order.result (get_or c.args.items.now (get_or c.args.order.now middle 0) c.args.value.now) c.cmp.result c.counts.result read c.cmp.ensures c.counts.ensures in
    record {
      ends = omega arith;
      within = omega (arith, within);
      before = c.loop-low.invariant.before;
      behind = high_half g.met.T.Ord.total c.args.items.now c.args.order.now c.requires c.args.value.now c.args.and_equal middle within (tested ∙ c.if-counts.false);
    }
