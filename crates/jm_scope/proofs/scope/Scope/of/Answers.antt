use Rattle.std.proofs.Common.{◌∙◌, ap}
use Rattle.jm_dest.specs.declared.key.Key.{Key}
use Rattle.jm_machine.specs.Rows.{bare}
use Rattle.jm_scope.specs.Numbers.{is_seen}
use Rattle.jm_scope.specs.Parts.{client_seen, belonging}
use Rattle.jm_scope.specs.Scopes.{scope_seen}
use Rattle.jm_scope.proofs.Seen.{scope_is}
use Rattle.jm_scope.proofs.scope.Scope.of.Goals as goal

pub returns : goal.returns
unfolding scope_seen
returns c opening e f r =
    let sessions = c.in_ok-sessions.sessions.items in
    let clients = client_seen c.in_ok-clients.clients in
    let made = is_seen c.in_ok-numbers.numbers in
    ap (λ (k : Key). belonging k sessions clients made) c.in_ok-copy.ensures
    ∙ scope_is opening c.args.connections.now c.args.consumers.now (bare c.args.rows.now) c.args.entries.now e f c.args.key.now sessions clients made
    r (λ k. c.in_ok-clients.ensures k) c.in_ok-sessions.ensures (λ s d. c.in_ok-numbers.ensures s d)
