use Rattle.jm_record.proofs.MessageLaws.{no_prefix}
use Rattle.jm_record.proofs.laws.law_no_prefix.Goals as goal

pub returns : goal.returns
returns c = no_prefix
