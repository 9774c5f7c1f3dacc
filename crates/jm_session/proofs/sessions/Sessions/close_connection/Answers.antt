use Rattle.std.proofs.Common.{◌∙◌, ap, sym, refl, false}
use Rattle.std.specs.Prelude.{◌==◌, is_some, map, None}
use Rattle.std.specs.Map.{values_of}
use Rattle.indexmap.specs.IndexMap.{values}
use Rattle.jm_machine.specs.declared.call.Who.TheVariants.{Connection}
use Rattle.jm_machine.specs.declared.call.Request.TheVariants.{CloseConnection}
use Rattle.jm_machine.specs.declared.state.ConnectionState.{ConnectionState}
use Rattle.jm_machine.specs.Life.{connection_of, life_after, closed_if}
use Rattle.jm_machine.specs.Machine.{closed_consumer, of_connection}
use Rattle.jm_session.specs.Known.{Known}
use Rattle.jm_session.proofs.Found.{connection_found, num_sym, life_of}
use Rattle.jm_session.proofs.Changed.{changed_found, num_same}
use Rattle.jm_session.proofs.Indexed.{apart_closed, index_closed}
use Rattle.jm_session.proofs.sessions.Sessions.close_connection.Goals as goal

pub returns-in_default-clause-ok : goal.returns-in_default-clause-ok
returns-in_default-clause-ok c =
    sym (ap is_some (connection_found c.self.inside.connections.entries c.args.id c.self.invariant.0) ∙ sym c.get_index_of.ensures.found ∙ ap is_some c.in_default.is)
    ∙ ap (λ (k : Known). is_some (connection_of k.life.connections c.args.id)) c.self.view_is

pub invariant_of-self : goal.invariant_of-self
invariant_of-self c = (
  (changed_found (λ a b. a == b) num_sym num_same (λ (x : ConnectionState). x.id) (λ (x : ConnectionState). record x { client = None; is_started = false; is_open = false }) (λ x. refl) c.args.id c.index_mut-connection.result.now c.self.inside.connections.entries c.in-Some.at
      c.index_mut-connection.ensures.value c.self.invariant.0 c.get_index_of.ensures.unique (sym c.get_index_of.ensures.index ∙ c.in-Some.is)).1,
  c.close_sessions.ensures.numbered,
  apart_closed (record c.index_mut-connection.result.now { client = None; is_started = false; is_open = false }) c.self.inside.connections.entries c.in-Some.at c.index_mut-connection.result.now c.index_mut-connection.ensures.value refl c.self.invariant.2,
  λ all. index_closed (record c.index_mut-connection.result.now { client = None; is_started = false; is_open = false }) c.self.inside.connections.entries c.in-Some.at c.index_mut-connection.result.now c.self.inside.clients c.free.new.self c.index_mut-connection.ensures.value refl c.self.invariant.2
      c.free.ensures.clients (c.self.invariant.3 (sym c.free.ensures.all ∙ all)),
  c.close_sessions.ensures.opened,
)

pub returns-clause-ok : goal.returns-clause-ok
returns-clause-ok c =
    sym (ap is_some (connection_found c.self.inside.connections.entries c.args.id c.self.invariant.0) ∙ sym c.get_index_of.ensures.found ∙ ap is_some c.in-Some.is)
    ∙ ap (λ (k : Known). is_some (connection_of k.life.connections c.args.id)) c.self.view_is

pub returns-clause-life : goal.returns-clause-life
unfolding life_after
returns-clause-life c =
    ap (λ xs. life_of xs (values_of c.close_sessions.new.sessions.entries)) (changed_found (λ a b. a == b) num_sym num_same (λ (x : ConnectionState). x.id) (λ (x : ConnectionState). record x { client = None; is_started = false; is_open = false }) (λ x. refl) c.args.id c.index_mut-connection.result.now c.self.inside.connections.entries c.in-Some.at
    c.index_mut-connection.ensures.value c.self.invariant.0 c.get_index_of.ensures.unique (sym c.get_index_of.ensures.index ∙ c.in-Some.is)).0
    ∙ ap (λ ys. life_of (map (closed_if c.args.id) (values c.self.inside.connections)) ys) c.close_sessions.ensures.values
    ∙ ap (λ (k : Known). life_after k.life (Connection c.args.id) CloseConnection) c.self.view_is

pub returns-clause-consumers : goal.returns-clause-consumers
returns-clause-consumers c =
    c.close.ensures.consumers
    ∙ ap (λ (k : Known). map (closed_consumer (of_connection c.args.id)) k.consumers) c.self.view_is
