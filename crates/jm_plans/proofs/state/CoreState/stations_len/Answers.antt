use Rattle.std.proofs.Common.{◌∙◌, sym}
use Rattle.jm_plans.proofs.Seen.{length-stations}
use Rattle.jm_plans.proofs.state.CoreState.stations_len.Goals as goal

pub returns : goal.returns
returns c = rw (← c.self.view_is) (c.len.ensures ∙ sym (length-stations c.self.inside.subs.list c.self.inside.stations.list c.self.invariant.0.number))
