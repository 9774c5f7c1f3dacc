use Rattle.jm_keep_law.proofs.Ordered.{reached_ordered}
use Rattle.jm_keep_law.proofs.law.law_order.Goals as goal

pub returns : goal.returns
returns c = reached_ordered
