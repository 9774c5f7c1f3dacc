use Rattle.jm_keep_law.proofs.Leads.{count_leads}
use Rattle.jm_keep_law.proofs.law.law_count.Goals as goal

pub returns : goal.returns
returns c = count_leads
