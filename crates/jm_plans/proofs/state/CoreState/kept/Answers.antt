use Rattle.jm_plans.proofs.Seen.{kept_same}
use Rattle.jm_plans.proofs.state.CoreState.kept.Goals as goal

pub returns : goal.returns
returns c = rw (← c.self.view_is) (kept_same c.kept.result c.self.inside.subs.list c.self.inside.stations.list c.self.invariant.0.number c.kept.ensures)
