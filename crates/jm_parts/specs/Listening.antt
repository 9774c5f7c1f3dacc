-- What listeners leave: whether a message came, and what is settled or given back once one is done.
use Rattle.std.specs.Prelude.{ℕ, Bool, true, false, List, Option, Some, None, if◌then◌else◌}
use Rattle.jm_base.specs.declared.mode.Mode.{Mode}
use Rattle.jm_dest.specs.declared.key.Key.{Key}
use Rattle.jm_machine.specs.declared.answer.Answer.{Answer}
use Rattle.jm_machine.specs.declared.answer.Answer.TheVariants.{Done, Sent, Delivered, Nothing, Missed}
use Rattle.jm_machine.specs.declared.consumers.Consumers.{Consumers}
use Rattle.jm_machine.specs.declared.state.Consumer.{Consumer}
use Rattle.jm_machine.specs.declared.state.PlacedRow.{PlacedRow}
use Rattle.jm_machine.specs.Machine.{are_meant, at_queue_of, key_at, returned_rows, settled_rows}
use Rattle.jm_machine.specs.Rows.{settles_at_once}
use Rattle.jm_stations.specs.Backlogs.{Backlog, changed_at}
use Rattle.jm_stations.specs.Stations.{index_in}

-- the answer hands a message out
abbrev pub is_delivered : Answer → Bool
is_delivered Done = false
is_delivered (Sent number) = false
is_delivered (Delivered delivery) = true
is_delivered Nothing = false
is_delivered (Missed number) = false

-- the key under which a listener that is done settles or gives back: its consumer's, where the mode settles a message as it
-- is delivered, and else none
abbrev pub ending_key : Mode → Option Consumer → Option Key
ending_key mode x = if settles_at_once (Some mode) then key_at x else None

-- rows of which those that are out through the consumers go, where that is asked for, and else wait again
abbrev pub ended_rows : Consumers → Bool → List PlacedRow → List PlacedRow
ended_rows which ok rows = if ok then settled_rows (are_meant which) rows else returned_rows (are_meant which) rows

-- the same of what is held under a key
abbrev pub ended : Consumers → Bool → Backlog → Backlog
ended which ok b = record b { rows = ended_rows which ok b.rows }

-- the same of what stands at the index, where there is one
abbrev pub ended_at : Option ℕ → Consumers → Bool → List Backlog → List Backlog
ended_at None which ok list = list
ended_at (Some i) which ok list = changed_at i (ended which ok) list

-- what is held once it is done under the key, where there is one
abbrev pub ended_under : Option Key → Consumers → Bool → List Key → List Backlog → List Backlog
ended_under None which ok keys list = list
ended_under (Some key) which ok keys list = ended_at (index_in keys key) which ok list

-- what queues hold then
abbrev pub ended_queues : Option Key → Consumers → Bool → (List ℕ → List PlacedRow) → List ℕ → List PlacedRow
ended_queues None which ok queues = queues
ended_queues (Some key) which ok queues = at_queue_of key (ended_rows which ok) queues
