use Rattle.std.proofs.Common.{◌≡◌, ◌∙◌, ap}
use Rattle.jm_machine.specs.Life.{is_client_open}
use Rattle.jm_session.specs.declared.clients.Clients.{Clients}
use Rattle.jm_session.specs.Clients.{is_indexed}
use Rattle.jm_session.proofs.Indexed.{still_indexed}
use Rattle.jm_session.proofs.clients.Clients.reserve.Goals as goal
use Rattle.jm_session.proofs.clients.Clients.reserve.Goals.{then-not-self+in_ok-gather, else-not-self}

pub returns-clause-clients : goal.returns-clause-clients
returns-clause-clients c = λ all client.
    let before : is_indexed c.if-not-self.self client ≡ is_client_open c.args.connections.now client =
    elim c.if-not-self.branch [
      | then-not-self+in_ok-gather w ↦ ap (λ (k : Clients). is_indexed k client) w.self-is ∙ w.in_ok-gather.ensures.ok client
      | else-not-self w ↦ ap (λ (k : Clients). is_indexed k client) w.self-is ∙ c.requires w.if-not-self.false client
    ] in
    still_indexed c.if-not-self.self (record c.if-not-self.self { owners = c.reserve.new.self }) c.reserve.ensures.entries client ∙ before
