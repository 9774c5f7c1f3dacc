use Rattle.jm_holds.proofs.Steps.{events_hold}
use Rattle.jm_holds.proofs.law.law_events_hold.Goals as goal

pub returns : goal.returns
returns c = events_hold
