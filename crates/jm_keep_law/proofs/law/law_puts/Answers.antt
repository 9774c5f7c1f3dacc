use Rattle.jm_keep_law.proofs.Leads.{puts_lead}
use Rattle.jm_keep_law.proofs.law.law_puts.Goals as goal

pub returns : goal.returns
returns c = puts_lead
