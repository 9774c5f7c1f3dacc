use Rattle.jm_keep_law.proofs.Leads.{station_leads}
use Rattle.jm_keep_law.proofs.law.law_station.Goals as goal

pub returns : goal.returns
returns c = station_leads
