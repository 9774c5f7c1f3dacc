use Rattle.jm_lane.proofs.lane.Lane.look_ahead.Goals as goal

pub first_ready-requires-clause-same : goal.first_ready-requires-clause-same
first_ready-requires-clause-same c = (c.self.inside.priority, c.self.invariant.lane.same)
