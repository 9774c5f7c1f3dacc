use Rattle.jm_lanes.specs.Lanes.{rows_of}
use Rattle.jm_pending.proofs.Number.{none_there}
use Rattle.jm_pending.proofs.held.Held.is_empty.Goals as goal

pub returns : goal.returns
returns c = λ yes. rw (← c.self.view_is) (none_there (rows_of c.self.inside.lanes) c.self.inside.count c.self.invariant.2 yes)
