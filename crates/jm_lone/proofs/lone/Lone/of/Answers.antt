use Rattle.std.proofs.Common.{◌∙◌, ap}
use Rattle.std.specs.Prelude.{filter}
use Rattle.jm_dest.specs.Keys.{key_eq}
use Rattle.jm_dest.specs.declared.key.Key.{Key}
use Rattle.jm_machine.specs.declared.state.Consumer.{Consumer}
use Rattle.jm_scope.specs.Scopes.{scope_seen}
use Rattle.jm_lone.proofs.Opened.{opened}
use Rattle.jm_lone.proofs.lone.Lone.of.Goals as goal

pub returns : goal.returns
returns c state n cs ss ks t =
    opened (scope_seen c.args.scope.now) state
    (record { limit = c.args.limit; life = record { connections = c.in_ok-own_connections.field-0.items; sessions = c.in_ok-own_sessions.field-0.items }; consumers = c.in_ok-consumers_of.field-0.items; definition = c.in_ok-definition.field-0.definition; missed = c.in_ok-definition.field-0.missed; rows = c.in_ok-definition.field-0.rows })
    c.args.connections.now c.args.sessions.now c.args.consumers.now c.args.station n cs ss ks t
    c.in_ok-own_connections.ensures c.in_ok-own_sessions.ensures
    (c.in_ok-consumers_of.ensures ∙ ap (λ (k : Key). filter (λ (x : Consumer). key_eq x.key k) c.args.consumers.now) c.key-2.ensures)
    c.in_ok-definition.ensures.definition c.in_ok-definition.ensures.missed c.in_ok-definition.ensures.rows
