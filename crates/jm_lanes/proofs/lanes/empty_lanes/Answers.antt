use Rattle.std.proofs.Common.{arith}
use Rattle.jm_lanes.proofs.Making.{empty_more}
use Rattle.jm_lanes.proofs.lanes.empty_lanes.Goals as goal

pub loop-index-preserved : goal.loop-index-preserved
loop-index-preserved c = record {
  empty = rw c.push_reserved.ensures.items (empty_more c.loop-index.lanes.items c.loop-index.index c.new.result c.loop-index.invariant.empty (rw c.new.ensures.priority (record { from = omega arith; to = omega arith })) c.new.ensures.rows);
  room = rw c.push_reserved.ensures.capacity c.loop-index.invariant.room;
}
