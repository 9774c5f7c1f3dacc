use Rattle.jm_law.proofs.Places.{one_place_each}
use Rattle.jm_law.proofs.law.law_one_place.Goals as goal

pub returns : goal.returns
returns c = one_place_each
