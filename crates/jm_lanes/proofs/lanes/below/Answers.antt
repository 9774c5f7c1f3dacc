use Rattle.std.proofs.Common.{arith, length, ap}
use Rattle.std.specs.List.{filter}
use Rattle.jm_lane.specs.Lanes.{Lane, is_below}
use Rattle.jm_lanes.proofs.Found.{rows_passed}
use Rattle.jm_lanes.proofs.lanes.below.Goals as goal

pub overflow_add-total : goal.overflow_add-total
overflow_add-total c =
    let passed = rows_passed (is_below c.args.place) c.args.lanes.now c.loop-lane.lane-index c.lane-item.result (omega arith) in
    omega (arith, passed.0, passed.1, c.loop-lane.invariant, c.below-total.ensures, ap (λ (l : Lane). length (filter (is_below c.args.place) l.rows)) c.lane-item.is, c.requires)

pub loop-lane-preserved : goal.loop-lane-preserved
loop-lane-preserved c =
    let passed = rows_passed (is_below c.args.place) c.args.lanes.now c.loop-lane.lane-index c.lane-item.result (omega arith) in
    omega (arith, passed.0, c.loop-lane.invariant, c.below-total.ensures, ap (λ (l : Lane). length (filter (is_below c.args.place) l.rows)) c.lane-item.is)
