use Rattle.jm_tables.proofs.Made.{message_is}
use Rattle.jm_tables.proofs.texts.message.Goals as goal

pub returns-clause-table : goal.returns-clause-table
returns-clause-table c = message_is
