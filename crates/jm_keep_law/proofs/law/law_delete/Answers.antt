use Rattle.jm_keep_law.proofs.Deleted.{delete_leads}
use Rattle.jm_keep_law.proofs.law.law_delete.Goals as goal

pub returns : goal.returns
returns c = delete_leads
