use Rattle.std.proofs.Common.{◌∙◌, sym}
use Rattle.jm_stations.proofs.Receiving.{shown_count}
use Rattle.jm_stations.proofs.stations.Stations.holders_of.Goals as goal

pub returns : goal.returns
returns c =
    rw (← c.self.view_is) (c.holders.ensures ∙ c.self.invariant.0.counted.each c.args.place ∙ sym (shown_count c.self.inside.table c.args.place c.self.inside.lists.items))
