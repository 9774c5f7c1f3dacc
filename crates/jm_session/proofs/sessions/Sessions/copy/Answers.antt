use Rattle.std.proofs.Common.{◌≡◌, ◌∙◌, ℕ, ap, sym, subst}
use Rattle.std.specs.Prelude.{min}
use Rattle.std.specs.Map.{values_of}
use Rattle.indexmap.specs.IndexMap.{spare, values}
use Rattle.jm_machine.specs.declared.state.ConnectionState.{ConnectionState}
use Rattle.jm_machine.specs.declared.state.SessionState.{SessionState}
use Rattle.jm_session.specs.Clients.{AreClientsApart, IsIndexOf, room}
use Rattle.jm_session.specs.Known.{Known}
use Rattle.jm_session.specs.Numbers.{IsNumbered}
use Rattle.jm_session.proofs.Closed.{open_sessions}
use Rattle.jm_session.proofs.Found.{life_of}
use Rattle.jm_session.proofs.sessions.Sessions.copy.Goals as goal

pub invariant_of-result : goal.invariant_of-result
invariant_of-result c =
    let listed : c.connections.result.now ≡ values c.in_ok-copied_connections.field-0 = c.connections.ensures ∙ sym (ap (λ (k : Known). k.life.connections) c.self.view_is) ∙ sym (ap values_of c.in_ok-copied_connections.ensures) in (
      subst (IsNumbered (λ (x : ConnectionState). x.id)) (sym c.in_ok-copied_connections.ensures) c.self.invariant.0,
      subst (IsNumbered (λ (x : SessionState). x.id)) (sym c.in_ok-sessions.ensures) c.self.invariant.1,
      subst AreClientsApart (sym (ap values_of c.in_ok-copied_connections.ensures)) c.self.invariant.2,
      λ all. subst (λ xs. IsIndexOf xs c.in_ok-clients.clients) listed c.in_ok-clients.ensures.clients,
      c.in_ok-opened.ensures ∙ c.self.invariant.4 ∙ ap open_sessions (sym (ap values_of c.in_ok-sessions.ensures)),
    )

pub returns : goal.returns
returns c =
    let left : ℕ = min (min (spare c.in_ok-copied_connections.field-0) (room c.in_ok-clients.clients)) (min (min (spare c.in_ok-sessions.sessions) c.in_ok-opened.opened.spare) c.in_ok-roster.roster.spare) in
    (λ i. record { life = life_of (values_of (c.in_ok-copied_connections.ensures i)) (values_of (c.in_ok-sessions.ensures i)); consumers = c.in_ok-roster.ensures i; spare = left })
    ∙ ap (λ (k : Known). record k { spare = left }) c.self.view_is
