use Rattle.std.proofs.Common.{arith}
use Rattle.std.proofs.lemmas.List.Elements.{All-filter}
use Rattle.jm_lane.specs.Rows.{keeps}
use Rattle.jm_lane.specs.Lanes.{IsBound}
use Rattle.jm_lane.proofs.Dues.{dues_filter}
use Rattle.jm_lane.proofs.Steps.{lane_filter}
use Rattle.jm_lane.proofs.Turns.{steady-filter}
use Rattle.jm_lane.proofs.lane.Lane.settle.Goals as goal

pub invariant_of-self : goal.invariant_of-self
invariant_of-self c =
    let is = c.settle_front-self-inside.ensures.rows in
    record { lane = rw is (lane_filter (keeps c.args.outs.now) c.self.inside.rows.items c.self.inside.priority c.self.inside.low c.self.inside.high c.self.inside.least c.settle_front-self-inside.result c.self.inside.least c.self.invariant.lane (rw (← is) c.settle_front-self-inside.ensures.within) (rw (← is) c.settle_front-self-inside.ensures.behind) (All-filter (keeps c.args.outs.now) (IsBound c.self.inside.least) c.self.inside.rows.items c.self.invariant.lane.bound)); turn = λ e. rw is (steady-filter (keeps c.args.outs.now) c.self.inside.rows.items (c.self.invariant.turn e)); dues = rw is (dues_filter (keeps c.args.outs.now) c.self.inside.rows.items c.self.inside.due c.self.inside.in_turn c.self.invariant.dues) }

pub returns-clause-room : goal.returns-clause-room
returns-clause-room c =
    rw (← c.self.view_is) (omega (arith, c.settle_front-self-inside.ensures.room.0, c.settle_front-self-inside.ensures.room.1))
