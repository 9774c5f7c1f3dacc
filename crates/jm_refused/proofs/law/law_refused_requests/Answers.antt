use Rattle.jm_refused.proofs.Calls.{requests_are_taken_out}
use Rattle.jm_refused.proofs.law.law_refused_requests.Goals as goal

pub returns : goal.returns
returns c = requests_are_taken_out
