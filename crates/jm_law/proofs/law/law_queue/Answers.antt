use Rattle.jm_law.proofs.Queues.{queue_keeps}
use Rattle.jm_law.proofs.law.law_queue.Goals as goal

pub returns : goal.returns
returns c = queue_keeps
