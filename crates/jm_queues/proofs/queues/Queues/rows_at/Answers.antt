use Rattle.std.proofs.Common.{◌≡◌, ◌<◌, ◌∙◌, arith, length, None}
use Rattle.jm_stations.specs.Backlogs.{Backlog, empty}
use Rattle.jm_queues.proofs.QueueKeys.{rows_there}
use Rattle.jm_queues.proofs.queues.Queues.rows_at.Goals as goal

pub returns : goal.returns
returns c = λ state d q.
    let i = c.self.inside in
    let b : Backlog = empty None in
    let keys = c.len-number.ensures.keys in
    let list = c.len-number.ensures.list in
    let within : c.args.index < length i.stations.keys = rw c.self.view_is c.requires in
    rw (← c.self.view_is)
    (c.new.ensures b ∙ rows_there state i.stations.keys i.stations.list c.args.index d b (rw (← c.self.view_is) at q) c.len-number.ensures.once c.self.invariant.1 within (omega (arith, keys, list, within)))
