use Rattle.jm_plans.proofs.state.CoreState.law_accepted.Goals as goal

pub returns : goal.returns
returns c = rw (← c.self.view_is) c.self.invariant.0.accepted
