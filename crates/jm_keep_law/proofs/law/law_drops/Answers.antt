use Rattle.jm_keep_law.proofs.Leads.{drops_lead}
use Rattle.jm_keep_law.proofs.law.law_drops.Goals as goal

pub returns : goal.returns
returns c = drops_lead
