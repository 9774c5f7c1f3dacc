use Rattle.jm_selector.proofs.Asked.{literal_there}
use Rattle.jm_selector.proofs.literal.law_literal.Goals as goal

pub returns : goal.returns
returns c = literal_there
