use Rattle.std.proofs.Common.{◌≡◌, take, subst}
use Rattle.std.specs.List.{find}
use Rattle.std.specs.Option.{option_or}
use Rattle.std.proofs.lemmas.List.{take_all}
use Rattle.jm_lane.specs.Rows.{IsRising}
use Rattle.jm_lane.specs.Lanes.{Lane}
use Rattle.jm_lanes.specs.Lanes.{all_rows}
use Rattle.jm_lane.specs.Cursors.{improves, lapsed_from}
use Rattle.jm_lanes.specs.Cursors.{IsLowestOf}
use Rattle.jm_lanes.proofs.Lowest.{lowest_more, lowest_found}
use Rattle.jm_lanes.proofs.cursors.lapsed_from.Goals as goal

pub loop-lane-preserved : goal.loop-lane-preserved
loop-lane-preserved c =
    let p = lapsed_from c.args.place c.args.now in
    let best = c.loop-lane.best in
    let lane : Lane = c.lane-item.result in
    let res = c.better_lapsed-best.result in
    let up = subst (λ (x : Lane). IsRising x.rows) c.lane-item.is c.better_lapsed-best.ensures.rising in
    let is = subst (λ (x : Lane). res ≡ option_or (find (improves best p) x.rows) best) c.lane-item.is c.better_lapsed-best.ensures.row in
    lowest_more p c.args.lanes.now c.loop-lane.lane-index lane best res c.loop-lane-test.true c.loop-lane.invariant up is

pub returns : goal.returns
returns c =
    let p = lapsed_from c.args.place c.args.now in
    let lanes = c.args.lanes.now in
    let all : take c.loop-lane.lane-index lanes ≡ lanes = take_all c.loop-lane.lane-index lanes c.loop-lane-test.false in
    lowest_found p (all_rows lanes) c.loop-lane.best c.requires (subst (λ (xs : _). IsLowestOf p (all_rows xs) c.loop-lane.best) all c.loop-lane.invariant)
