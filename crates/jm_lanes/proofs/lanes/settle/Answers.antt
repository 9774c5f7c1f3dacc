use Rattle.std.proofs.Common.{arith}
use Rattle.jm_lane.specs.Rows.{keeps}
use Rattle.jm_lanes.proofs.Holding.{covers_lane, let_more, edited_one}
use Rattle.jm_lanes.proofs.Number.{left_all_lanes, left_more}
use Rattle.jm_lanes.proofs.lanes.settle.Goals as goal

pub settle-requires : goal.settle-requires
settle-requires c = covers_lane c.loop-lane.table c.loop-lane.lanes c.loop-lane.lane-index c.lane-item.result c.loop-lane.invariant.let_go.covers (omega (arith, c.loop-lane-test.true, c.loop-lane.invariant.edited.len))

pub loop-lane-preserved : goal.loop-lane-preserved
loop-lane-preserved c =
    record {
      edited = edited_one (keeps c.args.outs.now) c.args.lanes.now c.loop-lane.lanes c.loop-lane.lane-index c.lane-item.result c.settle.new.self c.loop-lane.invariant.edited (omega (arith, c.loop-lane-test.true, c.loop-lane.invariant.edited.len)) c.settle.ensures.priority c.settle.ensures.rows c.settle.ensures.room;
      let_go = let_more (keeps c.args.outs.now) c.args.table.now c.loop-lane.table c.settle.new.table c.args.lanes.now c.loop-lane.lanes c.loop-lane.lane-index c.lane-item.result c.settle.new.self c.loop-lane.invariant.let_go (omega (arith, c.loop-lane-test.true, c.loop-lane.invariant.edited.len)) c.settle.ensures.rows c.settle.ensures.table;
      left = rw c.len-left.ensures (left_more (keeps c.args.outs.now) c.args.lanes.now c.loop-lane.lanes c.loop-lane.lane-index c.loop-lane.left c.lane-item.result c.settle.new.self c.loop-lane.invariant.left (omega (arith, c.loop-lane-test.true, c.loop-lane.invariant.edited.len)) c.settle.ensures.rows).0;
    }

pub overflow_add-left : goal.overflow_add-left
overflow_add-left c =
    let more = left_more (keeps c.args.outs.now) c.args.lanes.now c.loop-lane.lanes c.loop-lane.lane-index c.loop-lane.left c.lane-item.result c.settle.new.self c.loop-lane.invariant.left (omega (arith, c.loop-lane-test.true, c.loop-lane.invariant.edited.len)) c.settle.ensures.rows in
    omega (arith, c.len-left.ensures, more.1, c.requires.few)

pub returns-clause-left : goal.returns-clause-left
returns-clause-left c = left_all_lanes c.args.lanes.now c.loop-lane.lanes c.loop-lane.lane-index c.loop-lane.left c.loop-lane.invariant.left (omega (arith, c.loop-lane-test.false, c.loop-lane.invariant.edited.len))
