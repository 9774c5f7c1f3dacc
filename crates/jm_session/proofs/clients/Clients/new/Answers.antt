use Rattle.std.proofs.Common.{true}
use Rattle.jm_session.proofs.Indexed.{nothing_indexed}
use Rattle.jm_session.proofs.clients.Clients.new.Goals as goal

pub returns-clause-clients : goal.returns-clause-clients
returns-clause-clients c = nothing_indexed (record { owners = c.new.result; has_all = true }) c.new.ensures
