use Rattle.std.proofs.Common.{◌≡◌, ◌∙◌, ap, arith, sym, subst, true, false}
use Rattle.std.specs.Prelude.{◌==◌, ◌||◌, is_some}
use Rattle.indexmap.specs.IndexMap.{insert_entry, values}
use Rattle.jm_machine.specs.declared.call.Who.TheVariants.{Connection}
use Rattle.jm_machine.specs.declared.call.Request.TheVariants.{Open}
use Rattle.jm_machine.specs.declared.state.ConnectionState.{ConnectionState}
use Rattle.jm_machine.specs.Life.{connection_of, is_client_taken, life_after}
use Rattle.jm_session.specs.Clients.{AreClientsApart, IsIndexOf, has_client, is_indexed}
use Rattle.jm_session.specs.Known.{Known}
use Rattle.jm_session.proofs.Found.{life_of, opened, surely}
use Rattle.jm_session.proofs.Indexed.{apart_more, free_client, index_of_more}
use Rattle.jm_session.proofs.sessions.Sessions.open.Goals as goal

pub invariant_of-self-2 : goal.invariant_of-self-2
invariant_of-self-2 c =
    let x : ConnectionState = record { id = c.args.id; client = c.args.client; is_started = false; is_open = true } in
    let absent : is_some (connection_of (values c.self.inside.connections) c.args.id) ≡ false =
    ap (λ (k : Known). is_some (connection_of k.life.connections c.args.id)) c.self.view_is ∙ c.in_ok-may_open.ensures.unused in
    let free : is_client_taken (life_of (values c.self.inside.connections) (values c.self.inside.sessions)) c.args.client ≡ false =
    ap (λ (k : Known). is_client_taken k.life c.args.client) c.self.view_is ∙ c.in_ok-may_open.ensures.free in
    let after = opened c.self.inside.connections c.reserve.new.self c.insert.new.self x c.self.invariant.0 absent c.reserve.ensures.entries
    (surely c.insert.result c.insert.ensures.entries (c.insert.ensures.succeeds (omega (arith, c.in_ok-reserve.ensures.ok)))
    ∙ ap (λ s. insert_entry (λ a b. a == b) c.reserve.new.self.entries c.args.id s) c.new_connection-connection.ensures) in (
      after.1,
      c.self.invariant.1,
      subst AreClientsApart (sym after.0) (apart_more (values c.self.inside.connections) x c.self.invariant.2 (free_client (values c.self.inside.connections) (values c.self.inside.sessions) x free)),
      λ all. subst (λ xs. IsIndexOf xs c.note.new.self) (sym after.0)
          (index_of_more (values c.self.inside.connections) x c.self.inside.clients c.note.new.self (c.self.invariant.3 (c.note.ensures.all all))
          (λ client. c.note.ensures.clients all client ∙ ap (λ (s : ConnectionState). is_indexed c.self.inside.clients client || has_client s client) c.new_connection-connection.ensures)),
      c.self.invariant.4,
    )

pub returns-clause-life : goal.returns-clause-life
unfolding life_after
returns-clause-life c =
    let x : ConnectionState = record { id = c.args.id; client = c.args.client; is_started = false; is_open = true } in
    let absent : is_some (connection_of (values c.self.inside.connections) c.args.id) ≡ false =
    ap (λ (k : Known). is_some (connection_of k.life.connections c.args.id)) c.self.view_is ∙ c.in_ok-may_open.ensures.unused in
    let after = opened c.self.inside.connections c.reserve.new.self c.insert.new.self x c.self.invariant.0 absent c.reserve.ensures.entries
    (surely c.insert.result c.insert.ensures.entries (c.insert.ensures.succeeds (omega (arith, c.in_ok-reserve.ensures.ok)))
    ∙ ap (λ s. insert_entry (λ a b. a == b) c.reserve.new.self.entries c.args.id s) c.new_connection-connection.ensures) in
    ap (λ xs. life_of xs (values c.self.inside.sessions)) after.0
    ∙ ap (λ (k : Known). life_after k.life (Connection c.args.id) (Open c.args.client)) c.self.view_is
