use Rattle.std.proofs.Common.{None}
use Rattle.jm_selector.specs.Selectors.{matches}
use Rattle.jm_stations.specs.Backlogs.{Backlog, empty}
use Rattle.jm_queues.proofs.QueueCounts.{copy_stays, of_error}
use Rattle.jm_queues.proofs.QueueRows.{rows_found}
use Rattle.jm_queues.proofs.queues.Queues.pick.Goals as goal

pub returns-clause-err : goal.returns-clause-err
returns-clause-err c name found =
    let i = c.self.inside in
    let d : Backlog = empty None in
    let at = rw (← c.self.view_is) at found in
    let within = rw (← c.self.view_is) at c.requires.within in
    rw (← c.self.view_is, rows_found i.stations.keys i.stations.list name c.args.index d at within)
    (of_error _ _ (copy_stays (matches c.args.selector.now) c.args.settles c.args.now c.args.index i.stations.next_place i.stations.list d within c.self.invariant.0) c.pick_where.result (c.pick_where.ensures.err d))
