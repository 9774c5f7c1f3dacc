use Rattle.std.specs.List.{IsDistinct}
use Rattle.jm_stations.proofs.Publishing.{come_to_one}
use Rattle.jm_stations.proofs.stations.Stations.load.Goals as goal

pub returns-clause-list : goal.returns-clause-list
returns-clause-list c =
    come_to_one c.args.index c.args.self.now.next_place c.args.row c.args.self.now.list c.bring.new.self.list c.requires.within c.bring.ensures.list

pub bring-requires-clause-once : goal.bring-requires-clause-once
unfolding IsDistinct
bring-requires-clause-once c = (tt, tt)
