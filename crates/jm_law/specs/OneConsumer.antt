-- How many active consumers an unshared durable subscription has: one at most.
use Rattle.std.specs.Prelude.{◌≡◌, ℕ, ◌≤◌, false, List, Option}
use Rattle.jm_dest.specs.declared.key.Key.TheVariants.{Durable}
use Rattle.jm_machine.specs.Machine.{State, station_of, definition_of}
use Rattle.jm_machine.specs.Attached.{active_at}
use Rattle.jm_machine.specs.Isolation.{Reached, is_shared}

-- In every state that the provider reaches at most one consumer of a durable key is active, where its subscription is not
-- shared (Jakarta Messaging 3.1, section 8.3.3), and where there is none.
abbrev pub OneConsumerEach : Type 0
OneConsumerEach =
    (state : State) (client : Option (List ℕ)) (name : List ℕ) → Reached state →
    is_shared (definition_of (station_of (Durable client name) state.stations)) ≡ false →
    active_at (Durable client name) state.consumers ≤ 1
