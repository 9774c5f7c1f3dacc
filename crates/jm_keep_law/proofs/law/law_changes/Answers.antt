use Rattle.jm_keep_law.proofs.Calls.{changes_lead}
use Rattle.jm_keep_law.proofs.law.law_changes.Goals as goal

pub returns : goal.returns
returns c = changes_lead
