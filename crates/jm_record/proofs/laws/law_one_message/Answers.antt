use Rattle.jm_record.proofs.MessageLaws.{one_message}
use Rattle.jm_record.proofs.laws.law_one_message.Goals as goal

pub returns : goal.returns
returns c = one_message
