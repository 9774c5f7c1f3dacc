use Rattle.jm_keep_law.proofs.Deleted.{put_leads}
use Rattle.jm_keep_law.proofs.law.law_put.Goals as goal

pub returns : goal.returns
returns c = put_leads
