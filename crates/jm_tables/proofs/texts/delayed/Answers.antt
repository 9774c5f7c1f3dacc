use Rattle.jm_tables.proofs.Made.{delayed_is}
use Rattle.jm_tables.proofs.texts.delayed.Goals as goal

pub returns-clause-table : goal.returns-clause-table
returns-clause-table c = delayed_is
