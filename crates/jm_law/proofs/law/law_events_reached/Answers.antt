use Rattle.jm_law.proofs.Events.{events_reach}
use Rattle.jm_law.proofs.law.law_events_reached.Goals as goal

pub returns : goal.returns
returns c = events_reach
