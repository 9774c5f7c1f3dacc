use Rattle.jm_tables.proofs.Made.{meta_is}
use Rattle.jm_tables.proofs.texts.meta.Goals as goal

pub returns-clause-table : goal.returns-clause-table
returns-clause-table c = meta_is
