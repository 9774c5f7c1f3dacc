use Rattle.jm_stations.proofs.Readers.{holder_seen}
use Rattle.jm_stations.proofs.stations.Stations.holder_from.Goals as goal

pub returns : goal.returns
returns c = rw (← c.self.view_is) (holder_seen c.self.inside.table c.args.place c.args.index c.self.inside.lists.items c.holder_from.result c.holder_from.ensures)
