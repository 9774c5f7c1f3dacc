use Rattle.std.proofs.Common.{◌∙◌, ◌+◌, ◌-◌, ◌/◌, ◌<◌, ℕ, arith, ap, sym, length, get_or}
use Rattle.std.specs.Ordering.{is_lt}
use Rattle.std.proofs.lemmas.List.{get_or_read}
use Rattle.jm_indexed.proofs.Sections.{ahead_half, begun_half}
use Rattle.jm_indexed.proofs.section.count_ahead.Goals as goal

pub loop-low-preserved-then-is_lt : goal.loop-low-preserved-then-is_lt
loop-low-preserved-then-is_lt g c =
    let middle : ℕ = c.loop-low.low + (c.loop-low.high - c.loop-low.low) / 2 in
    let inside : middle < c.loop-low.high = omega arith in
    let within : middle < length c.args.order.now = omega (arith, inside, c.loop-low.invariant.within) in
    let read = get_or_read c.args.keys.now (get_or c.args.order.now middle 0) c.index-keys-order.result (c.requires.within middle 0 within) c.index-keys-order.is in
    let key = c.index-keys-order.result in
    let section = c.args.section.now in
    record {
      ends = omega (arith, inside);
      within = c.loop-low.invariant.within;
      ahead = ahead_half (g.S.Section.place section) (g.met.S.Section.monotone section) c.args.keys.now c.args.order.now c.requires middle within key read (ap is_lt (sym c.compare.ensures) ∙ sym c.is_lt.ensures ∙ c.if-is_lt.true);
      begun = c.loop-low.invariant.begun;
    }

pub loop-low-preserved : goal.loop-low-preserved
loop-low-preserved g c =
    let middle : ℕ = c.loop-low.low + (c.loop-low.high - c.loop-low.low) / 2 in
    let inside : middle < c.loop-low.high = omega arith in
    let within : middle < length c.args.order.now = omega (arith, inside, c.loop-low.invariant.within) in
    let read = get_or_read c.args.keys.now (get_or c.args.order.now middle 0) c.index-keys-order.result (c.requires.within middle 0 within) c.index-keys-order.is in
    let key = c.index-keys-order.result in
    let section = c.args.section.now in
    record {
      ends = omega arith;
      within = omega (arith, within);
      ahead = c.loop-low.invariant.ahead;
      begun = begun_half (g.S.Section.place section) (g.met.S.Section.monotone section) c.args.keys.now c.args.order.now c.requires middle within key read (ap is_lt (sym c.compare.ensures) ∙ sym c.is_lt.ensures ∙ c.if-is_lt.false);
    }
