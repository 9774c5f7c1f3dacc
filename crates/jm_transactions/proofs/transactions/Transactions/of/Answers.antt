use Rattle.std.proofs.Common.{◌∙◌, ap, sym, rules, List, Some}
use Rattle.std.specs.Prelude.{option_map}
use Rattle.std.specs.Option.{option_and_then}
use Rattle.jm_machine.specs.declared.state.ConnectionState.{ConnectionState}
use Rattle.jm_machine.specs.declared.state.SessionState.{SessionState}
use Rattle.jm_machine.specs.Life.{connection_of, session_of, client_at, open_mode}
use Rattle.jm_transactions.proofs.Courses.{follows_opening, noted_open, noted_client, on}
use Rattle.jm_transactions.proofs.transactions.Transactions.of.Goals as goal

pub returns : goal.returns
returns c entries life same_connections same_sessions =
    follows_opening entries life (rw (same_connections, same_sessions) c.requires) _
    (λ k. ap (λ o. option_map (λ x. x.is_open) o) (c.in_ok-connections.ensures k) ∙ noted_open (connection_of c.args.connections.now k) ∙ sym (ap (λ (xs : List ConnectionState). on (connection_of xs k)) same_connections))
    (λ k. ap (λ o. option_and_then (λ x. x.client) o) (c.in_ok-connections.ensures k) ∙ noted_client (connection_of c.args.connections.now k) ∙ sym (ap (λ (xs : List ConnectionState). client_at (connection_of xs k)) same_connections))
    (λ s. c.in_ok-sessions.ensures s ∙ sym (ap (λ (xs : List SessionState). option_map (λ x. open_mode (Some x)) (session_of xs s)) same_sessions))
    (λ s. search rules)
