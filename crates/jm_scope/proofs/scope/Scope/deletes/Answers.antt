use Rattle.std.proofs.Common.{◌∙◌, true, false, ap, sym}
use Rattle.jm_dest.specs.declared.key.Key.TheVariants.{Durable}
use Rattle.jm_dest.specs.Keys.{key_eq}
use Rattle.jm_machine.specs.Lone.{own_clients, deletes_key}
use Rattle.jm_machine.specs.Owns.{is_own}
use Rattle.jm_scope.specs.Parts.{client_seen}
use Rattle.jm_scope.specs.Scopes.{scope_seen}
use Rattle.jm_scope.proofs.Seen.{own_client, either_order}
use Rattle.jm_scope.proofs.scope.Scope.deletes.Goals as goal

pub returns-then-is_durable : goal.returns-then-is_durable
unfolding scope_seen
returns-then-is_durable c =
    let sessions = c.args.self.now.sessions.items in
    let clients = client_seen c.args.self.now.clients in
    let s = c.args.session.now in
    c.is_own.ensures
    ∙ either_order (is_own sessions s) (deletes_key c.args.self.now.key (own_clients sessions clients) s c.args.name.now) true
    (λ h. sym c.if-is_durable.true ∙ c.is_durable.ensures ∙ ap (λ o. key_eq (Durable o c.args.name.now) c.args.self.now.key) (c.client_of-client.ensures ∙ sym (own_client sessions clients s h)))

pub returns-else-is_durable : goal.returns-else-is_durable
unfolding scope_seen
returns-else-is_durable c =
    let sessions = c.args.self.now.sessions.items in
    let clients = client_seen c.args.self.now.clients in
    let s = c.args.session.now in
    c.if-is_durable.false
    ∙ either_order (is_own sessions s) (deletes_key c.args.self.now.key (own_clients sessions clients) s c.args.name.now) false
    (λ h. sym c.if-is_durable.false ∙ c.is_durable.ensures ∙ ap (λ o. key_eq (Durable o c.args.name.now) c.args.self.now.key) (c.client_of-client.ensures ∙ sym (own_client sessions clients s h)))
