use Rattle.std.proofs.Common.{◌≡◌, ◌∙◌, ap, sym, subst}
use Rattle.std.specs.Prelude.{option_to_list}
use Rattle.std.specs.Map.{values_of}
use Rattle.indexmap.specs.IndexMap.{values}
use Rattle.jm_machine.specs.declared.state.ConnectionState.{ConnectionState}
use Rattle.jm_machine.specs.declared.state.SessionState.{SessionState}
use Rattle.jm_session.specs.Clients.{AreClientsApart, IsIndexOf}
use Rattle.jm_session.specs.Numbers.{IsNumbered}
use Rattle.jm_session.specs.Opened.{AreOpen}
use Rattle.jm_session.proofs.Found.{life_of, one_numbered, one_value}
use Rattle.jm_session.proofs.Indexed.{apart_one}
use Rattle.jm_session.proofs.sessions.Sessions.of_one.Goals as goal

pub invariant_of-result : goal.invariant_of-result
invariant_of-result c =
    let one : values c.in_ok-connections.connections ≡ option_to_list c.args.connection =
    ap values_of c.in_ok-connections.ensures ∙ one_value (λ (x : ConnectionState). x.id) c.args.connection in (
      subst (IsNumbered (λ (x : ConnectionState). x.id)) (sym c.in_ok-connections.ensures) (one_numbered (λ (x : ConnectionState). x.id) c.args.connection),
      subst (IsNumbered (λ (x : SessionState). x.id)) (sym c.in_ok-sessions.ensures) (one_numbered (λ (x : SessionState). x.id) c.args.session),
      subst AreClientsApart (sym one) (apart_one c.args.connection),
      λ all. subst (λ xs. IsIndexOf xs c.in_ok-clients.clients) (c.as_slice.ensures ∙ c.values.ensures.rest) c.in_ok-clients.ensures.clients,
      subst (λ xs. AreOpen xs c.in_ok-opened.opened) (sym (ap values_of c.in_ok-sessions.ensures ∙ one_value (λ (x : SessionState). x.id) c.args.session)) c.in_ok-opened.ensures,
    )

pub returns-clause-life : goal.returns-clause-life
returns-clause-life c =
    ap (λ xs. life_of xs (values c.in_ok-sessions.sessions)) (ap values_of c.in_ok-connections.ensures ∙ one_value (λ (x : ConnectionState). x.id) c.args.connection)
    ∙ ap (λ xs. life_of (option_to_list c.args.connection) xs) (ap values_of c.in_ok-sessions.ensures ∙ one_value (λ (x : SessionState). x.id) c.args.session)
