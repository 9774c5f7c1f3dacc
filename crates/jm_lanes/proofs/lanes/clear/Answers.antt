use Rattle.std.proofs.Common.{arith, false, rules}
use Rattle.jm_lanes.proofs.Holding.{covers_lane, let_more, edited_one}
use Rattle.jm_lanes.proofs.Shown.{none_left}
use Rattle.jm_lanes.proofs.lanes.clear.Goals as goal

pub clear-requires : goal.clear-requires
clear-requires c = covers_lane c.loop-lane.table c.loop-lane.lanes c.loop-lane.lane-index c.lane-item.result c.loop-lane.invariant.let_go.covers (omega (arith, c.loop-lane-test.true, c.loop-lane.invariant.edited.len))

pub loop-lane-preserved : goal.loop-lane-preserved
loop-lane-preserved c =
    record {
      edited = edited_one (λ r. false) c.args.lanes.now c.loop-lane.lanes c.loop-lane.lane-index c.lane-item.result c.clear.new.self c.loop-lane.invariant.edited (omega (arith, c.loop-lane-test.true, c.loop-lane.invariant.edited.len)) c.clear.ensures.priority c.clear.ensures.rows c.clear.ensures.room;
      let_go = let_more (λ r. false) c.args.table.now c.loop-lane.table c.clear.new.table c.args.lanes.now c.loop-lane.lanes c.loop-lane.lane-index c.lane-item.result c.clear.new.self c.loop-lane.invariant.let_go (omega (arith, c.loop-lane-test.true, c.loop-lane.invariant.edited.len)) c.clear.ensures.rows c.clear.ensures.table;
    }

pub returns-clause-gone : goal.returns-clause-gone
returns-clause-gone c = none_left c.args.lanes.now c.loop-lane.lanes (search rules)
