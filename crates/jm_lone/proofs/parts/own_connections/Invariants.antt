use Rattle.std.proofs.Common.{◌≡◌, take}
use Rattle.std.specs.Prelude.{filter}
use Rattle.jm_machine.specs.Owns.{is_own_connection}
use Rattle.jm_scope.specs.Scopes.{scope_seen}
use Rattle.jm_lone.proofs.parts.own_connections.Given as goal

abbrev pub invariant-loop-connection : goal.invariant-loop-connection
invariant-loop-connection l = l.own.items ≡ filter (λ x. is_own_connection (scope_seen l.scope).sessions x.id) (take l.connection-index l.connections)
