use Rattle.std.proofs.Common.{◌≡◌, ◌∙◌, ap, sym, true, Some}
use Rattle.std.specs.Prelude.{◌||◌}
use Rattle.jm_dest.specs.Names.{text_eq}
use Rattle.jm_session.specs.Clients.{is_indexed}
use Rattle.jm_session.proofs.Indexed.{is_own, one_indexed, still_indexed, still_there}
use Rattle.jm_session.proofs.clients.Clients.add.Goals as goal

pub returns-then-contains_key-clause-ok : goal.returns-then-contains_key-clause-ok
unfolding is_indexed
returns-then-contains_key-clause-ok c = λ client.
    let held : is_indexed c.args.self.now c.in-Some.client ≡ true = sym c.contains_key.ensures ∙ c.if-contains_key.true in
    still_there c.args.self.now c.in-Some.client held client
    ∙ ap (λ b. is_indexed c.args.self.now client || b) (sym (is_own c.args.connection.now c.in-Some.client client c.if-not-connection.false c.in-Some.is))

pub returns-clause-ok : goal.returns-clause-ok
returns-clause-ok c = λ client.
    one_indexed (record c.args.self.now { owners = c.reserve.new.self }) (record c.args.self.now { owners = c.insert.new.self }) c.in_ok-copy.field-0 c.args.connection.now.id c.insert.ensures.updates client
    ∙ ap (λ b. b || text_eq c.in_ok-copy.field-0 client) (still_indexed c.args.self.now (record c.args.self.now { owners = c.reserve.new.self }) c.reserve.ensures.entries client)
    ∙ ap (λ b. is_indexed c.args.self.now client || b) (sym (is_own c.args.connection.now c.in_ok-copy.field-0 client c.if-not-connection.false (c.in-Some.is ∙ ap Some (sym c.in_ok-copy.ensures))))
