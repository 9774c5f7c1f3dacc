use Rattle.std.proofs.Common.{◌∙◌, ap, arith, set}
use Rattle.jm_lane.specs.Rows.{sent_at}
use Rattle.jm_lane.specs.Chosen.{StandsIn}
use Rattle.jm_lane.proofs.Dues.{dues_sent}
use Rattle.jm_lane.proofs.Spots.{spot_out, spot_sent}
use Rattle.jm_lane.proofs.Turns.{steady-map, sent_at_expiration}
use Rattle.jm_lane.proofs.lane.Lane.send_at.Goals as goal

pub invariant_of-self : goal.invariant_of-self
invariant_of-self c =
    let rows = c.self.inside.rows.items in
    let s = c.args.session in
    let to = c.args.consumer in
    let spot = c.args.spot.now in
    let at : StandsIn rows spot = rw (← c.self.view_is) at c.requires in
    rw (c.sent-row.ensures, c.low_after-self-inside.ensures) (record {
      lane = spot_out s to rows c.self.inside.priority c.self.inside.low c.self.inside.high c.self.inside.least c.max-self-inside.result spot c.self.invariant.lane at (omega (arith, c.max-self-inside.ensures)) (omega (arith, c.max-self-inside.ensures)) (omega (arith, c.max-self-inside.ensures, at.within, c.self.invariant.lane.high_in));
      turn = λ e. rw (spot_sent s to rows spot c.self.invariant.lane.rising at) (steady-map (sent_at spot.row.place s to) (sent_at_expiration spot.row.place s to) rows (c.self.invariant.turn e));
      dues = rw (spot_sent s to rows spot c.self.invariant.lane.rising at) (dues_sent spot.row.place s to rows c.self.inside.due c.self.inside.in_turn c.self.invariant.dues);
    })

pub returns-clause-rows : goal.returns-clause-rows
returns-clause-rows c =
    let rows = c.self.inside.rows.items in
    let spot = c.args.spot.now in
    let at : StandsIn rows spot = rw (← c.self.view_is) at c.requires in
    rw (← c.self.view_is) (ap (set rows spot.index) c.sent-row.ensures ∙ spot_sent c.args.session c.args.consumer rows spot c.self.invariant.lane.rising at)
