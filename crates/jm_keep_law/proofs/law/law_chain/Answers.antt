use Rattle.jm_keep_law.proofs.Leads.{chain}
use Rattle.jm_keep_law.proofs.law.law_chain.Goals as goal

pub returns : goal.returns
returns c = chain
