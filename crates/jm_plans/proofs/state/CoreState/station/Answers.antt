use Rattle.std.proofs.Common.{sym, None}
use Rattle.jm_stations.specs.Backlogs.{Backlog, empty}
use Rattle.jm_plans.proofs.Seen.{station_found, station_missing}
use Rattle.jm_plans.proofs.state.CoreState.station.Goals as goal

pub returns-in-None : goal.returns-in-None
returns-in-None c =
    let at = rw (← c.self.invariant.0.same) at c.in-None.ensures.index in
    rw (← c.self.view_is) (station_missing c.args.key.now c.self.inside.subs.list c.self.inside.stations.list (sym at))

pub returns-in_ok-station_at-in-Some : goal.returns-in_ok-station_at-in-Some
returns-in_ok-station_at-in-Some c =
    let d : Backlog = empty None in
    let at = rw (← c.self.invariant.0.same) at c.in-Some.ensures.index in
    rw (c.in_ok-station_at-in-Some.ensures d, ← c.self.view_is)
    (station_found c.args.key.now c.self.inside.subs.list c.self.inside.stations.list c.in-Some.index c.definition_at-definition.result.now d c.self.invariant.0.number (sym at) c.definition_at-definition.ensures)
