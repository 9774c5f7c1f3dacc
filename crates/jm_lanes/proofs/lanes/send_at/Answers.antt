use Rattle.std.proofs.Common.{arith, ap, sym, ◌∙◌, option_map, Some}
use Rattle.jm_lane.specs.Chosen.{row_of}
use Rattle.jm_lane.specs.Rows.{sent}
use Rattle.jm_lanes.proofs.Spots.{none_sent, spot_taken}
use Rattle.jm_lanes.proofs.lanes.send_at.Goals as goal

pub returns-in_err-spot-clause-rows : goal.returns-in_err-spot-clause-rows
returns-in_err-spot-clause-rows c =
    none_sent c.args.session c.args.consumer c.args.place c.args.lanes.now (sym c.spot_of.ensures.row ∙ ap row_of c.in_err-spot.was)

pub returns-clause-result : goal.returns-clause-result
returns-clause-result c =
    ap Some c.send_at.ensures.result ∙ ap (option_map (sent c.args.session c.args.consumer)) (sym (ap row_of c.in_ok-spot.was) ∙ c.spot_of.ensures.row)

pub returns-clause-rows : goal.returns-clause-rows
returns-clause-rows c =
    let spot = c.in_ok-spot.spot in
    let both = c.in_ok-spot.ensures.spot in
    rw (← both.0) (spot_taken c.args.session c.args.consumer c.args.lanes.now spot c.index-lanes-spot.result c.send_at.new.self c.requires both.1 c.send_at.ensures.priority c.send_at.ensures.rows (omega (arith, c.send_at.ensures.room)))
