use Rattle.std.proofs.Common.{◌≡◌, subst, List, option_map}
use Rattle.std.specs.List.{find}
use Rattle.jm_machine.specs.declared.state.PlacedRow.{PlacedRow}
use Rattle.jm_stations.specs.Standing as spec
use Rattle.jm_stations.proofs.Readers.{covers_at, own_at, rows_seen}
use Rattle.jm_stations.proofs.stations.Stations.lapsed_from.Goals as goal

pub lapsed_from-requires-clause-covers : goal.lapsed_from-requires-clause-covers
lapsed_from-requires-clause-covers c = covers_at c.self.inside.table c.self.inside.lists.items c.self.inside.next_place c.args.index c.at.result.now (rw (← c.self.view_is) at c.requires) c.at.ensures c.self.invariant.0

pub lapsed_from-requires-clause-own : goal.lapsed_from-requires-clause-own
lapsed_from-requires-clause-own c = own_at c.self.inside.table c.self.inside.lists.items c.self.inside.next_place c.args.index c.at.result.now (rw (← c.self.view_is) at c.requires) c.at.ensures c.self.invariant.0

pub returns : goal.returns
returns c = λ d.
    let same = rows_seen c.self.inside.table c.self.inside.lists.items c.args.index c.at.result.now d (rw (← c.self.view_is) at c.requires) c.at.ensures in
    rw (← c.self.view_is) (subst (λ (rows : List PlacedRow). option_map spec.row_of c.lapsed_from.result ≡ find (spec.lapsed_from c.args.place c.args.now) rows) same c.lapsed_from.ensures)
