use Rattle.jm_keep_law.proofs.Apart.{queues_apart}
use Rattle.jm_keep_law.proofs.law.law_apart.Goals as goal

pub returns : goal.returns
returns c = queues_apart
