-- What holds of the places of rows in each state that the provider reaches.
use Rattle.std.specs.Prelude.{◌≡◌, ℕ, List, IsSome}
use Rattle.jm_dest.specs.declared.key.Key.{Key}
use Rattle.jm_dest.specs.declared.key.Key.TheVariants.{Queue}
use Rattle.jm_machine.specs.Machine.{State}
use Rattle.jm_machine.specs.Isolation.{Reached}
use Rattle.jm_machine.specs.Under.{placed_under}
use Rattle.jm_keep.specs.Persisted.{row_at}
use Rattle.jm_keep.specs.Steps.{StandsInOrder}

-- where a row of the queue stands, no row of another key does
abbrev pub QueuesApart : Type 0
QueuesApart = (state : State) → Reached state → (name : List ℕ) (key : Key) (place : ℕ) → IsSome (row_at place (placed_under state (Queue name))) → IsSome (row_at place (placed_under state key)) → key ≡ Queue name

-- the rows of each queue stand by place, and those of each subscription
abbrev pub ReachedInOrder : Type 0
ReachedInOrder = (state : State) → Reached state → StandsInOrder state
