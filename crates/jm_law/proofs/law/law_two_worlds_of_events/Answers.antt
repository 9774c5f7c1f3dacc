use Rattle.jm_law.proofs.Worlds.{two_worlds_of_events}
use Rattle.jm_law.proofs.law.law_two_worlds_of_events.Goals as goal

pub returns : goal.returns
returns c = two_worlds_of_events
