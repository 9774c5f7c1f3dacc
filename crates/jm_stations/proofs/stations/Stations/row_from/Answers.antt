use Rattle.std.proofs.Common.{◌≡◌, subst, List, option_map}
use Rattle.std.specs.List.{find}
use Rattle.jm_machine.specs.declared.state.PlacedRow.{PlacedRow}
use Rattle.jm_stations.specs.Standing as spec
use Rattle.jm_stations.proofs.Readers.{covers_at, rows_seen}
use Rattle.jm_stations.proofs.stations.Stations.row_from.Goals as goal

pub row_from-requires-clause-covers : goal.row_from-requires-clause-covers
row_from-requires-clause-covers c = covers_at c.self.inside.table c.self.inside.lists.items c.self.inside.next_place c.args.index c.at.result.now (rw (← c.self.view_is) at c.requires.within) c.at.ensures c.self.invariant.0

pub returns : goal.returns
returns c = λ d.
    let same = rows_seen c.self.inside.table c.self.inside.lists.items c.args.index c.at.result.now d (rw (← c.self.view_is) at c.requires.within) c.at.ensures in
    rw (← c.self.view_is) (subst (λ (rows : List PlacedRow). option_map spec.row_of c.row_from.result ≡ find (spec.is_from c.args.place) rows) same c.row_from.ensures)
