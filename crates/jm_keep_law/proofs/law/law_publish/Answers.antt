use Rattle.jm_keep_law.proofs.Published.{publish_gains}
use Rattle.jm_keep_law.proofs.law.law_publish.Goals as goal

pub returns : goal.returns
returns c = publish_gains
