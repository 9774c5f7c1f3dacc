use Rattle.jm_keep_law.proofs.Received.{receive_loses}
use Rattle.jm_keep_law.proofs.law.law_receive.Goals as goal

pub returns : goal.returns
returns c = receive_loses
