use Rattle.jm_lanes.proofs.Within.{within_copied}
use Rattle.jm_lanes.proofs.used.UsedLanes.copy.Goals as goal

pub invariant_of-result : goal.invariant_of-result
invariant_of-result c = within_copied c.self.inside.lanes.items c.in_ok-clone.field-0.items c.self.inside.span c.self.invariant c.in_ok-clone.ensures.cases.0
