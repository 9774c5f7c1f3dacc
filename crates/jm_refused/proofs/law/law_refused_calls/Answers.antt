use Rattle.jm_refused.proofs.Calls.{calls_are_taken_out}
use Rattle.jm_refused.proofs.law.law_refused_calls.Goals as goal

pub returns : goal.returns
returns c = calls_are_taken_out
