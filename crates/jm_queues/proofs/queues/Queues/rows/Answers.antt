use Rattle.std.proofs.Common.{◌∙◌, sym, None}
use Rattle.jm_stations.specs.Backlogs.{Backlog, empty}
use Rattle.jm_queues.proofs.QueueRows.{rows_found, rows_missing}
use Rattle.jm_queues.proofs.queues.Queues.rows.Goals as goal

pub returns-in-None : goal.returns-in-None
returns-in-None c =
    let q = c.args.self.now in
    let at = rw c.in-None.is at c.in_ok-index_named.ensures.index in
    c.new.ensures.items ∙ sym (rows_missing q.keys q.list c.args.name.now (sym at))

pub returns-in-Some : goal.returns-in-Some
returns-in-Some c =
    let i = c.self.inside in
    let d : Backlog = empty None in
    let at = rw (← c.self.view_is, c.in-Some.is) at c.in_ok-index_named.ensures.index in
    let within = rw (← c.self.view_is, c.in-Some.is) at c.in_ok-index_named.ensures.within in
    rw (← c.self.view_is, rows_found i.stations.keys i.stations.list c.args.name.now c.in-Some.index d (sym at) within) (c.rows_of.ensures d)
