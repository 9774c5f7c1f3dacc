use Rattle.std.proofs.Common.{arith}
use Rattle.jm_lane.specs.Rows.{stays}
use Rattle.jm_lanes.proofs.Holding.{covers_lane, let_more, edited_one}
use Rattle.jm_lanes.proofs.Number.{left_all_lanes, left_more}
use Rattle.jm_lanes.proofs.lanes.drop_expired.Goals as goal

pub drop_expired-requires : goal.drop_expired-requires
drop_expired-requires c = covers_lane c.loop-lane.table c.loop-lane.lanes c.loop-lane.lane-index c.lane-item.result c.loop-lane.invariant.let_go.covers (omega (arith, c.loop-lane-test.true, c.loop-lane.invariant.edited.len))

pub loop-lane-preserved : goal.loop-lane-preserved
loop-lane-preserved c =
    rw c.look_ahead.ensures (record {
      edited = edited_one (stays c.args.now) c.args.lanes.now c.loop-lane.lanes c.loop-lane.lane-index c.lane-item.result c.drop_expired.new.self c.loop-lane.invariant.edited (omega (arith, c.loop-lane-test.true, c.loop-lane.invariant.edited.len)) c.drop_expired.ensures.priority c.drop_expired.ensures.rows c.drop_expired.ensures.room;
      let_go = let_more (stays c.args.now) c.args.table.now c.loop-lane.table c.drop_expired.new.table c.args.lanes.now c.loop-lane.lanes c.loop-lane.lane-index c.lane-item.result c.drop_expired.new.self c.loop-lane.invariant.let_go (omega (arith, c.loop-lane-test.true, c.loop-lane.invariant.edited.len)) c.drop_expired.ensures.rows c.drop_expired.ensures.table;
      left = rw (rw c.look_ahead.ensures at c.len-left.ensures) (left_more (stays c.args.now) c.args.lanes.now c.loop-lane.lanes c.loop-lane.lane-index c.loop-lane.left c.lane-item.result c.drop_expired.new.self c.loop-lane.invariant.left (omega (arith, c.loop-lane-test.true, c.loop-lane.invariant.edited.len)) c.drop_expired.ensures.rows).0;
    })

pub overflow_add-left : goal.overflow_add-left
overflow_add-left c =
    let more = left_more (stays c.args.now) c.args.lanes.now c.loop-lane.lanes c.loop-lane.lane-index c.loop-lane.left c.lane-item.result c.drop_expired.new.self c.loop-lane.invariant.left (omega (arith, c.loop-lane-test.true, c.loop-lane.invariant.edited.len)) c.drop_expired.ensures.rows in
    omega (arith, (rw c.look_ahead.ensures at c.len-left.ensures), more.1, c.requires.few)

pub returns-clause-left : goal.returns-clause-left
returns-clause-left c = left_all_lanes c.args.lanes.now c.loop-lane.lanes c.loop-lane.lane-index c.loop-lane.left c.loop-lane.invariant.left (omega (arith, c.loop-lane-test.false, c.loop-lane.invariant.edited.len))
