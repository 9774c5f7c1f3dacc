use Rattle.std.proofs.Common.{◌∙◌, ap, sym, arith}
use Rattle.jm_lane.specs.Rows.{are_home}
use Rattle.jm_lane.specs.Lanes.{Lane}
use Rattle.jm_lanes.proofs.Home.{home_lane, away_lane}
use Rattle.jm_lanes.proofs.lanes.are_home.Goals as goal

pub loop-lane-preserved : goal.loop-lane-preserved
loop-lane-preserved c =
    home_lane c.args.lanes.now c.loop-lane.lane-index c.lane-item.result (omega arith) c.loop-lane.invariant (ap (λ (x : Lane). are_home x.rows) (sym c.lane-item.is) ∙ sym c.is_home.ensures ∙ c.if-not-is_home.false)

pub returns-then-not-is_home : goal.returns-then-not-is_home
returns-then-not-is_home c =
    sym (away_lane c.args.lanes.now c.loop-lane.lane-index c.lane-item.result (omega arith) (ap (λ (x : Lane). are_home x.rows) (sym c.lane-item.is) ∙ sym c.is_home.ensures ∙ c.if-not-is_home.true))
