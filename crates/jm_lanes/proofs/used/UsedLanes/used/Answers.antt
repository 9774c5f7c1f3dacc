use Rattle.jm_lanes.proofs.Within.{span_rows}
use Rattle.jm_lanes.proofs.used.UsedLanes.used.Goals as goal

pub returns : goal.returns
returns c = rw (← c.self.view_is) (span_rows c.self.inside.span c.first.result c.end.result c.self.inside.lanes.items c.deref.result.now c.deref.ensures.value c.first.ensures c.end.ensures c.self.invariant)
