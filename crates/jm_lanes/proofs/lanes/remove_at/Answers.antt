use Rattle.std.proofs.Common.{ap, sym, ◌∙◌}
use Rattle.jm_lane.specs.Chosen.{row_of}
use Rattle.jm_lanes.proofs.Spots.{none_left, spot_left}
use Rattle.jm_lanes.proofs.lanes.remove_at.Goals as goal

pub returns-in_err-spot-clause-rows : goal.returns-in_err-spot-clause-rows
returns-in_err-spot-clause-rows c = none_left c.args.place c.args.lanes.now (sym c.spot_of.ensures.row ∙ ap row_of c.in_err-spot.was)

pub returns-clause-rows : goal.returns-clause-rows
returns-clause-rows c =
    let spot = c.in_ok-spot.spot in
    let both = c.in_ok-spot.ensures.spot in
    rw (← both.0) (spot_left c.args.lanes.now spot c.index-lanes-spot.result c.remove_at.new.self c.requires both.1 c.remove_at.ensures.priority c.remove_at.ensures.rows c.remove_at.ensures.room)
