use Rattle.std.proofs.Common.{◌∙◌}
use Rattle.jm_parts.proofs.Stations.{definition_seen}
use Rattle.jm_plans.proofs.state.CoreState.definition_of.Goals as goal

pub returns : goal.returns
returns c =
    let i = c.self.inside in
    rw (← c.self.view_is) (c.definition_of.ensures ∙ definition_seen c.args.key.now i.subs.list i.stations.list c.self.invariant.0.number)
