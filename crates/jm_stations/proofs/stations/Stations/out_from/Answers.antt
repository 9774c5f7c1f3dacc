use Rattle.std.proofs.Common.{◌≡◌, subst, List, option_map}
use Rattle.std.specs.List.{find}
use Rattle.jm_machine.specs.Machine.{are_meant}
use Rattle.jm_machine.specs.declared.state.PlacedRow.{PlacedRow}
use Rattle.jm_stations.specs.Standing as spec
use Rattle.jm_stations.proofs.Readers.{covers_at, rows_seen}
use Rattle.jm_stations.proofs.stations.Stations.out_from.Goals as goal

pub out_from-requires : goal.out_from-requires
out_from-requires c = covers_at c.self.inside.table c.self.inside.lists.items c.self.inside.next_place c.args.index c.at.result.now (rw (← c.self.view_is) at c.requires) c.at.ensures c.self.invariant.0

pub returns : goal.returns
returns c = λ d.
    let same = rows_seen c.self.inside.table c.self.inside.lists.items c.args.index c.at.result.now d (rw (← c.self.view_is) at c.requires) c.at.ensures in
    rw (← c.self.view_is) (subst (λ (rows : List PlacedRow). option_map spec.row_of c.out_from.result ≡ find (spec.out_from c.args.place (are_meant c.args.which.now)) rows) same c.out_from.ensures)
