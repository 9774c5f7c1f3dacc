use Rattle.jm_keep_law.proofs.Settled.{return_stores}
use Rattle.jm_keep_law.proofs.law.law_return.Goals as goal

pub returns : goal.returns
returns c = return_stores
