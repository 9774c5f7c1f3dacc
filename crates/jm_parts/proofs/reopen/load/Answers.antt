use Rattle.jm_queues.specs.Queues.{rows_in}
use Rattle.jm_parts.proofs.Reopening.{queue_joins}
use Rattle.jm_parts.proofs.reopen.load.Goals as goal

pub returns-in-Queue-clause-queues : goal.returns-in-Queue-clause-queues
returns-in-Queue-clause-queues c name =
    let m = c.args.stored.message in
    rw c.in-Queue.is (queue_joins c.args.stored.place m c.in-Queue.count m.destination (rows_in c.args.queues.now) (rows_in c.load_queued.new.queues) c.load_queued.result name c.load_queued.ensures.rows c.load_queued.ensures.others)
