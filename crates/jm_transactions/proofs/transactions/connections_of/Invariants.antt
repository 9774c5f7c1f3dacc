use Rattle.std.proofs.Common.{◌≡◌, ℕ, drop}
use Rattle.std.specs.Prelude.{◌==◌, option_map}
use Rattle.std.specs.Option.{option_or}
use Rattle.std.specs.HashMap.{get}
use Rattle.jm_machine.specs.Life.{connection_of}
use Rattle.jm_transactions.specs.Courses.{connected_as}
use Rattle.jm_transactions.proofs.transactions.connections_of.Given as goal

abbrev pub invariant-loop-connection : goal.invariant-loop-connection
invariant-loop-connection l = (c : ℕ) →
    option_or (get (λ a b. a == b) l.made c) (option_map connected_as (connection_of (drop l.connection-index l.connections) c))
    ≡ option_map connected_as (connection_of l.connections c)
