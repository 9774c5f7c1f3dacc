use Rattle.jm_tables.proofs.Made.{held_is}
use Rattle.jm_tables.proofs.texts.held.Goals as goal

pub returns-clause-table : goal.returns-clause-table
returns-clause-table c = held_is
