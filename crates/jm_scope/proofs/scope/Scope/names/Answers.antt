use Rattle.std.proofs.Common.{◌∙◌, true, false, sym}
use Rattle.jm_machine.specs.Lone.{own_clients, names_key}
use Rattle.jm_machine.specs.Owns.{is_own}
use Rattle.jm_scope.specs.Parts.{client_seen}
use Rattle.jm_scope.specs.Scopes.{scope_seen}
use Rattle.jm_scope.proofs.Seen.{own_client, either_order}
use Rattle.jm_scope.proofs.scope.Scope.names.Goals as goal

pub returns-then-names_key : goal.returns-then-names_key
unfolding scope_seen
returns-then-names_key c =
    let sessions = c.args.self.now.sessions.items in
    let clients = client_seen c.args.self.now.clients in
    let s = c.args.session.now in
    c.is_own.ensures
    ∙ either_order (is_own sessions s) (names_key c.args.self.now.key (own_clients sessions clients) s c.args.request.now) true
    (λ h. sym c.if-names_key.true ∙ c.names_key.ensures (own_clients sessions clients) (own_client sessions clients s h ∙ sym c.client_of-client.ensures))

pub returns-else-names_key : goal.returns-else-names_key
unfolding scope_seen
returns-else-names_key c =
    let sessions = c.args.self.now.sessions.items in
    let clients = client_seen c.args.self.now.clients in
    let s = c.args.session.now in
    c.if-names_key.false
    ∙ either_order (is_own sessions s) (names_key c.args.self.now.key (own_clients sessions clients) s c.args.request.now) false
    (λ h. sym c.if-names_key.false ∙ c.names_key.ensures (own_clients sessions clients) (own_client sessions clients s h ∙ sym c.client_of-client.ensures))
