use Rattle.jm_keep_law.proofs.Calls.{refused_leads}
use Rattle.jm_keep_law.proofs.law.law_refused.Goals as goal

pub returns : goal.returns
returns c = refused_leads
