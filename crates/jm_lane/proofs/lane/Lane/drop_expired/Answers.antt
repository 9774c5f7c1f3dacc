use Rattle.std.proofs.Common.{◌≡◌, ◌<◌, arith, length, sym}
use Rattle.std.specs.List.{filter}
use Rattle.std.proofs.Common.{true}
use Rattle.jm_lane.specs.Rows.{stays, is_waiting}
use Rattle.jm_lane.proofs.Dues.{dues_filter}
use Rattle.jm_lane.proofs.Sieve.{filter_all}
use Rattle.jm_lane.proofs.Steps.{lane_filter, lane_low, bound_stays}
use Rattle.jm_lane.proofs.Turns.{steady-filter, lane_kept, top_is, away, behind_least, behind_filter}
use Rattle.jm_lane.proofs.lane.Lane.drop_expired.Goals as goal

pub returns-then-get-self-clause-rows : goal.returns-then-get-self-clause-rows
returns-then-get-self-clause-rows c =
    let early : c.args.now < c.self.inside.least = omega arith in
    rw (← c.self.view_is) (sym (filter_all (stays c.args.now) c.self.inside.rows.items (bound_stays c.args.now c.self.inside.least c.self.inside.rows.items early c.self.invariant.lane.bound)))

pub invariant_of-self : goal.invariant_of-self
invariant_of-self c =
    let is = c.drop_front-self-inside.ensures.rows in
    let len : c.len.result ≡ length (filter (stays c.args.now) c.self.inside.rows.items) = rw (← is) (omega arith) in
    rw is (record {
      lane = lane_low (filter (stays c.args.now) c.self.inside.rows.items) c.self.inside.priority c.self.inside.low c.min-self-inside.result c.self.inside.least c.drop_front-self-inside.result (lane_kept (stays c.args.now) c.self.inside.rows.items c.self.inside.priority c.self.inside.low c.self.inside.high c.self.inside.least c.min-self-inside.result c.self.invariant.lane (away c.args.now _ c.self.invariant.lane.before) (omega (arith, len, c.min-self-inside.ensures)) (top_is c.self.inside.high c.len.result _ c.min-self-inside.result c.min-self-inside.ensures len)) (rw is at c.drop_front-self-inside.ensures.within) (rw is at c.drop_front-self-inside.ensures.low);
      turn = λ e. steady-filter (stays c.args.now) c.self.inside.rows.items (c.self.invariant.turn e);
      dues = dues_filter (stays c.args.now) c.self.inside.rows.items c.self.inside.due c.self.inside.in_turn c.self.invariant.dues;
    })

pub invariant_of-self-2 : goal.invariant_of-self-2
invariant_of-self-2 c =
    let is = c.drop_each.ensures.rows in
    let len : c.len-2.result ≡ length (filter (stays c.args.now) c.self.inside.rows.items) = rw (← is) (omega arith) in
    rw is (record {
      lane = lane_filter (stays c.args.now) c.self.inside.rows.items c.self.inside.priority c.self.inside.low c.self.inside.high c.self.inside.least c.min-self-inside-2.result c.bound_of-self-inside.result c.self.invariant.lane (omega (arith, len, c.min-self-inside-2.ensures)) (behind_least (λ r. is_waiting r ≡ true) c.self.inside.high c.min-self-inside-2.result (filter (stays c.args.now) c.self.inside.rows.items) (top_is c.self.inside.high c.len-2.result _ c.min-self-inside-2.result c.min-self-inside-2.ensures len) (behind_filter (λ r. is_waiting r ≡ true) (stays c.args.now) c.self.inside.high c.self.inside.rows.items c.self.invariant.lane.behind)) (rw (← is) c.bound_of-self-inside.ensures);
      turn = λ e. steady-filter (stays c.args.now) c.self.inside.rows.items (c.self.invariant.turn e);
      dues = dues_filter (stays c.args.now) c.self.inside.rows.items c.self.inside.due c.self.inside.in_turn c.self.invariant.dues;
    })
