use Rattle.jm_tables.proofs.Made.{station_is}
use Rattle.jm_tables.proofs.texts.station.Goals as goal

pub returns-clause-table : goal.returns-clause-table
returns-clause-table c = station_is
