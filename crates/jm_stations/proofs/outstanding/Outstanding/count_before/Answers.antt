use Rattle.std.proofs.Common.{◌≡◌, ◌<◌, ◌≤◌, ◌+◌, ◌-◌, ◌/◌, ℕ, length, get_or, arith}
use Rattle.std.proofs.lemmas.List.{get_or_read}
use Rattle.jm_stations.proofs.Rising.{half_before, half_behind}
use Rattle.jm_stations.proofs.outstanding.Outstanding.count_before.Goals as goal

pub loop-low-preserved-then-index : goal.loop-low-preserved-then-index
loop-low-preserved-then-index c =
    let middle : ℕ = c.loop-low.low + (c.loop-low.high - c.loop-low.low) / 2 in
    let is = c.self.inside.indexes.items in
    let inside : middle < c.loop-low.high = omega arith in
    let within : c.loop-low.high ≤ length is = rw (← c.self.view_is) at c.loop-low.invariant.within in
    let lt : middle < length is = omega (arith, inside, within) in
    let read : c.index.result.now ≡ get_or is middle 0 = get_or_read is middle c.index.result.now lt c.index.ensures 0 in
    let lower : get_or is middle 0 < c.args.index = rw read at c.if-index.true in
    record {
      ends = omega (arith, inside);
      within = c.loop-low.invariant.within;
      before = rw (← c.self.view_is) (half_before c.self.inside.number c.args.index middle is c.self.invariant.0 lt lower);
      behind = c.loop-low.invariant.behind;
    }

pub loop-low-preserved : goal.loop-low-preserved
loop-low-preserved c =
    let middle : ℕ = c.loop-low.low + (c.loop-low.high - c.loop-low.low) / 2 in
    let is = c.self.inside.indexes.items in
    let inside : middle < c.loop-low.high = omega arith in
    let within : c.loop-low.high ≤ length is = rw (← c.self.view_is) at c.loop-low.invariant.within in
    let lt : middle < length is = omega (arith, inside, within) in
    let read : c.index.result.now ≡ get_or is middle 0 = get_or_read is middle c.index.result.now lt c.index.ensures 0 in
    let higher : c.args.index ≤ get_or is middle 0 = rw read at c.if-index.false in
    record {
      ends = omega arith;
      within = rw (← c.self.view_is) (omega (arith, lt));
      before = c.loop-low.invariant.before;
      behind = rw (← c.self.view_is) (half_behind c.self.inside.number c.args.index middle is c.self.invariant.0 lt higher);
    }
