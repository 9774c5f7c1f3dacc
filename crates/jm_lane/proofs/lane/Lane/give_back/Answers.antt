use Rattle.std.proofs.Common.{arith, drop}
use Rattle.std.proofs.lemmas.List.{drop-map}
use Rattle.std.proofs.lemmas.List.Elements.{All-nil}
use Rattle.jm_lane.specs.Rows.{back, is_among}
use Rattle.jm_lane.proofs.Dues.{dues_back}
use Rattle.jm_lane.proofs.Steps.{lane_map, back_place, back_priority, map_back_waiting}
use Rattle.jm_lane.proofs.Steps.{back_expiration}
use Rattle.jm_lane.proofs.Turns.{steady-map}
use Rattle.jm_lane.proofs.lane.Lane.give_back.Goals as goal

pub invariant_of-self : goal.invariant_of-self
invariant_of-self c =
    let is = c.give_back_front-bounds.ensures.rows in
    let outs = c.args.outs.now in
    record { lane = rw is (lane_map (back (is_among outs)) (back_place (is_among outs)) (back_priority (is_among outs)) c.self.inside.rows.items c.self.inside.priority c.self.inside.low c.self.inside.high c.self.inside.least 0 c.self.inside.high c.give_back_front-bounds.result.least c.self.invariant.lane (omega arith) c.self.invariant.lane.high_in (All-nil _) (rw (drop-map (back (is_among outs)) c.self.inside.high c.self.inside.rows.items, map_back_waiting outs (drop c.self.inside.high c.self.inside.rows.items) c.self.invariant.lane.behind) c.self.invariant.lane.behind) (rw (← is) c.give_back_front-bounds.ensures.bound)); turn = λ e. rw is (steady-map (back (is_among outs)) (back_expiration (is_among outs)) c.self.inside.rows.items (c.self.invariant.turn e)); dues = rw is (dues_back (is_among outs) c.self.inside.rows.items c.self.inside.due c.give_back_front-bounds.result.due c.self.inside.in_turn c.self.invariant.dues (rw (← is) c.give_back_front-bounds.ensures.due)) }
