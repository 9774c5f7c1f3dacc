use Rattle.jm_law.proofs.Events.{isolation_of_events}
use Rattle.jm_law.proofs.law.law_isolation_of_events.Goals as goal

pub returns : goal.returns
returns c = isolation_of_events
