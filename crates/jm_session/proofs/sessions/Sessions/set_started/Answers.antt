use Rattle.std.proofs.Common.{◌≡◌, ◌∙◌, ap, sym, refl, false, Some}
use Rattle.std.specs.Prelude.{◌==◌, is_some}
use Rattle.indexmap.specs.IndexMap.{values}
use Rattle.jm_machine.specs.declared.state.ConnectionState.{ConnectionState}
use Rattle.jm_machine.specs.Life.{connection_of, is_open_connection}
use Rattle.jm_session.specs.Known.{Known, life_set}
use Rattle.jm_session.proofs.Found.{connection_found, num_sym, life_of, nothing}
use Rattle.jm_session.proofs.Changed.{changed_found, num_same}
use Rattle.jm_session.proofs.Indexed.{apart_kept, index_kept}
use Rattle.jm_session.proofs.sessions.Sessions.set_started.Goals as goal

pub returns-in_default-clause-ok : goal.returns-in_default-clause-ok
returns-in_default-clause-ok c =
    let absent : is_some (connection_of (values c.self.inside.connections) c.args.id) ≡ false =
    ap is_some (connection_found c.self.inside.connections.entries c.args.id c.self.invariant.0) ∙ sym c.get_index_of.ensures.found ∙ ap is_some c.in_default.is in
    sym (ap is_open_connection (nothing (connection_of (values c.self.inside.connections) c.args.id) absent))
    ∙ ap (λ (k : Known). is_open_connection (connection_of k.life.connections c.args.id)) c.self.view_is

pub returns-then-not-index-clause-ok : goal.returns-then-not-index-clause-ok
returns-then-not-index-clause-ok c =
    let there : connection_of (values c.self.inside.connections) c.args.id ≡ Some c.index.result.now =
    connection_found c.self.inside.connections.entries c.args.id c.self.invariant.0 ∙ sym c.in-Some.ensures.value ∙ c.index.ensures in
    sym (ap is_open_connection there ∙ c.if-not-index.true)
    ∙ ap (λ (k : Known). is_open_connection (connection_of k.life.connections c.args.id)) c.self.view_is

pub invariant_of-self : goal.invariant_of-self
invariant_of-self c = (
  (changed_found (λ a b. a == b) num_sym num_same (λ (x : ConnectionState). x.id) (λ (x : ConnectionState). record x { is_started = c.args.on }) (λ x. refl) c.args.id c.index_mut.result.now c.self.inside.connections.entries c.in-Some.at
      c.index_mut.ensures.value c.self.invariant.0 c.get_index_of.ensures.unique (sym c.get_index_of.ensures.index ∙ c.in-Some.is)).1,
  c.self.invariant.1,
  apart_kept (record c.index_mut.result.now { is_started = c.args.on }) c.self.inside.connections.entries c.in-Some.at c.index_mut.result.now c.index_mut.ensures.value (λ client. refl) c.self.invariant.2,
  λ all. index_kept (record c.index_mut.result.now { is_started = c.args.on }) c.self.inside.connections.entries c.in-Some.at c.index_mut.result.now c.self.inside.clients c.index_mut.ensures.value (λ client. refl) (c.self.invariant.3 all),
  c.self.invariant.4,
)

pub returns-clause-ok : goal.returns-clause-ok
returns-clause-ok c =
    let there : connection_of (values c.self.inside.connections) c.args.id ≡ Some c.index.result.now =
    connection_found c.self.inside.connections.entries c.args.id c.self.invariant.0 ∙ sym c.in-Some.ensures.value ∙ c.index.ensures in
    sym (ap is_open_connection there ∙ c.if-not-index.false)
    ∙ ap (λ (k : Known). is_open_connection (connection_of k.life.connections c.args.id)) c.self.view_is

pub returns-clause-life : goal.returns-clause-life
returns-clause-life c =
    ap (λ xs. life_of xs (values c.self.inside.sessions)) (changed_found (λ a b. a == b) num_sym num_same (λ (x : ConnectionState). x.id) (λ (x : ConnectionState). record x { is_started = c.args.on }) (λ x. refl) c.args.id c.index_mut.result.now c.self.inside.connections.entries c.in-Some.at
    c.index_mut.ensures.value c.self.invariant.0 c.get_index_of.ensures.unique (sym c.get_index_of.ensures.index ∙ c.in-Some.is)).0
    ∙ ap (λ (k : Known). life_set k.life c.args.id c.args.on) c.self.view_is
