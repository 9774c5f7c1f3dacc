use Rattle.std.proofs.Common.{◌∙◌, ap, sym}
use Rattle.std.specs.Prelude.{◌&&◌, not}
use Rattle.jm_session.specs.Clients.{is_indexed}
use Rattle.jm_session.proofs.Indexed.{is_own, one_freed}
use Rattle.jm_session.proofs.clients.Clients.free.Goals as goal

pub returns-in-Some-clause-clients : goal.returns-in-Some-clause-clients
returns-in-Some-clause-clients c = λ client.
    one_freed c.args.self.now (record c.args.self.now { owners = c.remove.new.self }) c.in-Some.client c.remove.ensures.updates client
    ∙ ap (λ b. is_indexed c.args.self.now client && not b) (sym (is_own c.args.connection.now c.in-Some.client client c.if-not-connection.false c.in-Some.is))
