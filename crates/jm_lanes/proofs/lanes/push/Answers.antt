use Rattle.std.proofs.Common.{◌<◌, arith}
use Rattle.jm_lane.specs.declared.row.Row.{Row}
use Rattle.jm_lanes.proofs.Found.{all_in_lane}
use Rattle.jm_lanes.proofs.lanes.push.Goals as goal

pub push-requires-clause-above : goal.push-requires-clause-above
push-requires-clause-above c =
    all_in_lane (λ (r : Row). r.place < c.args.row.place) c.args.lanes.now _ c.index-lanes-at.result (omega (arith, c.requires.number, c.lane_for-at.ensures.to)) c.requires.above
