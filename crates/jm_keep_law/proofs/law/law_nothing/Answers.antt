use Rattle.jm_keep_law.proofs.Leads.{nothing_leads}
use Rattle.jm_keep_law.proofs.law.law_nothing.Goals as goal

pub returns : goal.returns
returns c = nothing_leads
