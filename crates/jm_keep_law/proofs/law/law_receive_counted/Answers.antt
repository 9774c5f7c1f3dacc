use Rattle.jm_keep_law.proofs.Counted.{counted_receive_leads}
use Rattle.jm_keep_law.proofs.law.law_receive_counted.Goals as goal

pub returns : goal.returns
returns c = counted_receive_leads
