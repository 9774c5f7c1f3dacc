use Rattle.std.proofs.Common.{subst, take, get_or}
use Rattle.jm_lane.specs.Lanes.{Lane, IsPlaceFrom}
use Rattle.jm_lanes.specs.Lanes.{all_rows}
use Rattle.jm_lanes.proofs.Found.{all_rows_more}
use Rattle.jm_lane.proofs.From.{min_is, nothing_from}
use Rattle.jm_lanes.proofs.From.{from_both}
use Rattle.jm_lanes.proofs.lanes.place_from.Goals as goal

pub loop-lane-init : goal.loop-lane-init
loop-lane-init c = nothing_from c.args.place c.requires

pub loop-lane-preserved : goal.loop-lane-preserved
loop-lane-preserved c =
    let lanes = c.args.lanes.now in
    let i = c.loop-lane.lane-index in
    let lane = c.lane-item.result in
    let here : IsPlaceFrom c.args.place c.place_from.result (get_or lanes i lane).rows = subst (λ (l : Lane). IsPlaceFrom c.args.place c.place_from.result l.rows) c.lane-item.is c.place_from.ensures in
    let both = from_both c.args.place c.loop-lane.least c.place_from.result (all_rows (take i lanes)) (get_or lanes i lane).rows c.loop-lane.invariant here in
    rw (c.min-least.ensures, min_is c.loop-lane.least c.place_from.result, all_rows_more lanes i lane c.loop-lane-test.true) both
