use Rattle.jm_law.proofs.Worlds.{two_worlds}
use Rattle.jm_law.proofs.law.law_two_worlds.Goals as goal

pub returns : goal.returns
returns c = two_worlds
