use Rattle.std.proofs.Common.{arith, length, sym, ◌∙◌, ◌≡◌, ◌+◌, inl, inr, refl}
use Rattle.jm_lane.proofs.Dues.{dues_push}
use Rattle.jm_lane.proofs.Steps.{lane_push}
use Rattle.jm_lane.proofs.lane.Lane.push.Goals as goal

pub invariant_of-self : goal.invariant_of-self
invariant_of-self c =
    let len : c.len-self-inside.result ≡ length c.self.inside.rows.items + 1 = omega (arith, c.len-self-inside.ensures, c.push_back_reserved.ensures.len) in
    rw c.push_back_reserved.ensures.items (record { lane = lane_push c.self.inside.rows.items c.self.inside.priority c.self.inside.low c.self.inside.high c.self.inside.least c.len-self-inside.result c.earlier-self-inside.result c.args.row c.self.invariant.lane (rw (← c.self.view_is) at c.requires.priority) (inl len) (rw (← c.self.view_is) at c.requires.above) c.earlier-self-inside.ensures.lower c.earlier-self-inside.ensures.bound; turn = c.is_steady_with-self-inside.ensures; dues = dues_push c.self.inside.rows.items c.args.row c.self.inside.due c.due_earlier-self-inside.result c.self.inside.in_turn c.are_in_turn_with-self-inside.result c.self.invariant.dues c.due_earlier-self-inside.ensures.lower c.due_earlier-self-inside.ensures.bound c.are_in_turn_with-self-inside.ensures })

pub invariant_of-self-else-not-is_waiting : goal.invariant_of-self-else-not-is_waiting
invariant_of-self-else-not-is_waiting c =
    rw c.push_back_reserved.ensures.items (record { lane = lane_push c.self.inside.rows.items c.self.inside.priority c.self.inside.low c.self.inside.high c.self.inside.least c.self.inside.high c.earlier-self-inside.result c.args.row c.self.invariant.lane (rw (← c.self.view_is) at c.requires.priority) (inr (refl, sym c.is_waiting.ensures ∙ c.if-not-is_waiting.false)) (rw (← c.self.view_is) at c.requires.above) c.earlier-self-inside.ensures.lower c.earlier-self-inside.ensures.bound; turn = c.is_steady_with-self-inside.ensures; dues = dues_push c.self.inside.rows.items c.args.row c.self.inside.due c.due_earlier-self-inside.result c.self.inside.in_turn c.are_in_turn_with-self-inside.result c.self.invariant.dues c.due_earlier-self-inside.ensures.lower c.due_earlier-self-inside.ensures.bound c.are_in_turn_with-self-inside.ensures })
