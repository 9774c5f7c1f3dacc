use Rattle.jm_lanes.proofs.used.UsedLanes.make.Goals as goal

pub invariant_of-self : goal.invariant_of-self
invariant_of-self c = c.make.ensures.within c.self.inside.span c.self.inside.room c.self.invariant

pub returns-clause-held : goal.returns-clause-held
returns-clause-held c = λ room h. c.make.ensures.held room (rw c.self.view_is h)
