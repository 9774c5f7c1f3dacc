use Rattle.std.proofs.Common.{◌≡◌, ℕ, drop}
use Rattle.std.specs.Prelude.{◌==◌, option_map}
use Rattle.std.specs.Option.{option_or}
use Rattle.std.specs.HashMap.{get}
use Rattle.jm_machine.specs.Life.{connection_of}
use Rattle.jm_scope.specs.Parts.{client_left}
use Rattle.jm_scope.proofs.clients.clients_left.Given as goal

abbrev pub invariant-loop-connection : goal.invariant-loop-connection
invariant-loop-connection l = (c : ℕ) →
    option_or (get (λ a b. a == b) l.clients c) (option_map client_left (connection_of (drop l.connection-index l.connections) c))
    ≡ option_map client_left (connection_of l.connections c)
