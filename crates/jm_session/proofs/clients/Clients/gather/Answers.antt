use Rattle.std.proofs.Common.{◌∙◌}
use Rattle.jm_session.proofs.Indexed.{still_indexed}
use Rattle.jm_session.proofs.clients.Clients.gather.Goals as goal

pub returns-clause-ok : goal.returns-clause-ok
returns-clause-ok c = λ client.
    still_indexed c.in_ok-gathered.gathered (record c.in_ok-gathered.gathered { owners = c.reserve.new.self }) c.reserve.ensures.entries client
    ∙ c.in_ok-gathered.ensures.clients client
