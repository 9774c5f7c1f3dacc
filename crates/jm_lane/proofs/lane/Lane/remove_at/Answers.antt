use Rattle.std.proofs.Common.{◌≡◌, ◌∙◌, arith, length}
use Rattle.std.specs.List.{filter}
use Rattle.jm_lane.specs.Rows.{is_elsewhere}
use Rattle.jm_lane.specs.Chosen.{StandsIn}
use Rattle.jm_lane.proofs.Dues.{dues_filter}
use Rattle.jm_lane.proofs.Spots.{spot_gone, spot_removed}
use Rattle.jm_lane.proofs.Turns.{steady-filter, top_is}
use Rattle.jm_lane.proofs.lane.Lane.remove_at.Goals as goal

pub invariant_of-self : goal.invariant_of-self
invariant_of-self c =
    let rows = c.self.inside.rows.items in
    let spot = c.args.spot.now in
    let at : StandsIn rows spot = rw (← c.self.view_is) at c.requires in
    let gone : c.remove.new.rows.items ≡ filter (is_elsewhere spot.row.place) rows = c.remove.ensures.rows ∙ spot_removed rows spot c.self.invariant.lane.rising at in
    let len : c.len.result ≡ length (filter (is_elsewhere spot.row.place) rows) = rw (← gone) (omega (arith, c.len.ensures)) in
    rw gone (record {
      lane = spot_gone rows c.self.inside.priority c.self.inside.low c.self.inside.high c.self.inside.least c.min-self-inside.result spot c.self.invariant.lane at (omega (arith, len, c.min-self-inside.ensures)) (top_is c.self.inside.high c.len.result _ c.min-self-inside.result c.min-self-inside.ensures len);
      turn = λ e. steady-filter (is_elsewhere spot.row.place) rows (c.self.invariant.turn e);
      dues = dues_filter (is_elsewhere spot.row.place) rows c.self.inside.due c.self.inside.in_turn c.self.invariant.dues;
    })

pub returns-clause-rows : goal.returns-clause-rows
returns-clause-rows c =
    let rows = c.self.inside.rows.items in
    let spot = c.args.spot.now in
    let at : StandsIn rows spot = rw (← c.self.view_is) at c.requires in
    rw (← c.self.view_is) (c.remove.ensures.rows ∙ spot_removed rows spot c.self.invariant.lane.rising at)
