use Rattle.jm_stations.proofs.stations.Stations.may_share.Goals as goal

pub returns : goal.returns
returns c = rw (← c.self.view_is) c.self.invariant.5
