use Rattle.jm_tables.proofs.Made.{held_by_place_is}
use Rattle.jm_tables.proofs.texts.held_by_place.Goals as goal

pub returns-clause-index : goal.returns-clause-index
returns-clause-index c = held_by_place_is
