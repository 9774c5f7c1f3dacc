-- What becomes of a queue's messages: each that it held or that came to it is held there, or was settled, or was dropped as
-- expired.
use Rattle.std.specs.Prelude.{◌≡◌, ℕ, ◌+◌, ◌≤◌, Bool, false, ◌&&◌, List, [], ◌∷◌, ◌++◌, filter, Option, Some, None, is_none, if◌then◌else◌}
use Rattle.jm_dest.specs.declared.destination.Destination.{Destination}
use Rattle.jm_dest.specs.declared.destination.Destination.TheVariants.{Queue, Topic}
use Rattle.jm_dest.specs.declared.key.Key.{Key}
use Rattle.jm_dest.specs.declared.key.Key.TheVariants.{Own, SharedOwn, Durable, Queue as OfQueue}
use Rattle.jm_dest.specs.Names.{text_eq}
use Rattle.jm_header.specs.declared.content.Content.{Content}
use Rattle.jm_machine.specs.declared.call.Who.{Who}
use Rattle.jm_machine.specs.declared.call.Who.TheVariants.{Connection, Session}
use Rattle.jm_machine.specs.declared.call.Request.{Request}
use Rattle.jm_machine.specs.declared.call.Request.TheVariants.{Receive, Acknowledge, Take, Done as DoneWith}
use Rattle.jm_machine.specs.declared.call.Call.{Call}
use Rattle.jm_machine.specs.declared.call.Call.TheVariants.{Ask, Publish, Commit}
use Rattle.jm_machine.specs.declared.call.Step.{Step}
use Rattle.jm_machine.specs.declared.state.PlacedRow.{PlacedRow}
use Rattle.jm_machine.specs.declared.state.Row.{Row}
use Rattle.jm_machine.specs.Life.{is_started, mode_of}
use Rattle.jm_machine.specs.Rows.{bare, fresh, has_lapsed, is_next_chosen, is_out, live, live_placed, settles_at_once}
use Rattle.jm_machine.specs.Machine.{State, consumer_of, key_at, selected_by, of_session, of_number, is_client, held, refusal, publish_refusal, commit_refusal, step}
use Rattle.jm_machine.specs.Isolation.{Reached}
use Rattle.jm_machine.specs.Places.{rows_at, rows_holding}

-- the first row that passes, where there is one
abbrev pub first_row : (Row → Bool) → List PlacedRow → List PlacedRow
first_row p [] = []
first_row p (x ∷ rows) = if p x.row then x ∷ [] else first_row p rows

-- the key is that of the queue
abbrev pub is_queue : List ℕ → Option Key → Bool
is_queue name None = false
is_queue name (Some (OfQueue other)) = text_eq other name
is_queue name (Some (Own s c)) = false
is_queue name (Some (SharedOwn client other)) = false
is_queue name (Some (Durable client other)) = false

-- the row of the queue that a receive delivers through the session's consumer
abbrev pub delivered_row : (Content → Bool) → ℕ → List PlacedRow → List PlacedRow
delivered_row p now rows = first_row (is_next_chosen p now (live now (bare rows))) (live_placed now rows)

-- what a request that is not refused settles at the queue: a client's acknowledgement all that is out to its session, a
-- receive of a session that settles at once the row that it delivers, and in such a session a listener that is done what is
-- out through its consumer, unless that is given back
abbrev pub settles : List ℕ → State → Who → Request → List PlacedRow
settles name state (Session s) Acknowledge = if is_client (mode_of state.life s) then filter (λ x. is_out (of_session s) x.row) (state.queues name) else []
settles name state (Session s) (Receive c now) =
    if is_started state.life s.connection && (is_queue name (key_at (consumer_of state.consumers s c)) && settles_at_once (mode_of state.life s))
    then delivered_row (selected_by (consumer_of state.consumers s c)) now (state.queues name)
    else []
settles name state (Session s) (DoneWith c ok) =
    if ok && (is_queue name (key_at (consumer_of state.consumers s c)) && settles_at_once (mode_of state.life s))
    then filter (λ x. is_out (of_number s c) x.row) (state.queues name)
    else []
settles name state _ _ = []

-- what it drops: a receive from the queue, or a take, the rows that have lapsed
abbrev pub drops_lapsed : List ℕ → State → Who → Request → List PlacedRow
drops_lapsed name state (Session s) (Receive c now) =
    if is_started state.life s.connection && is_queue name (key_at (consumer_of state.consumers s c)) then filter (λ x. has_lapsed now x.row) (state.queues name) else []
drops_lapsed name state (Session s) (Take c now) =
    if is_started state.life s.connection && is_queue name (key_at (consumer_of state.consumers s c)) then filter (λ x. has_lapsed now x.row) (state.queues name) else []
drops_lapsed name state _ _ = []

-- rows, where a call is not refused
abbrev pub rows_unless : Bool → List PlacedRow → List PlacedRow
rows_unless accepted rows = if accepted then rows else []

-- what a step settles at the queue; a commit settles all that is out to its session
unfoldable pub settled_at : List ℕ → State → Who → Call → List PlacedRow
settled_at name state who (Ask request) = rows_unless (is_none (refusal state.life state.consumers (held state who request) who request)) (settles name state who request)
settled_at name state who (Publish messages) = []
settled_at name state (Connection c) (Commit messages) = []
settled_at name state (Session s) (Commit messages) = rows_unless (is_none (commit_refusal state (Session s) messages)) (filter (λ x. is_out (of_session s) x.row) (state.queues name))

-- what it drops there
unfoldable pub dropped_at : List ℕ → State → Who → Call → List PlacedRow
dropped_at name state who (Ask request) = rows_unless (is_none (refusal state.life state.consumers (held state who request) who request)) (drops_lapsed name state who request)
dropped_at name state who _ = []

-- the row of a message that is published at the place, where it is sent to the queue
abbrev pub row_to : List ℕ → Destination → Content → ℕ → List PlacedRow
row_to name (Queue other) m place = if text_eq other name then record { place = place; row = fresh m } ∷ [] else []
row_to name (Topic other) m place = []

-- the rows of messages that are published from that place on
abbrev pub rows_to : List ℕ → ℕ → List Content → List PlacedRow
rows_to name place [] = []
rows_to name place (m ∷ messages) = row_to name m.destination m place ++ rows_to name (place + 1) messages

-- what a step brings to the queue
unfoldable pub came_at : List ℕ → State → Who → Call → List PlacedRow
came_at name state who (Ask request) = []
came_at name state who (Publish messages) = rows_unless (is_none (publish_refusal state who messages)) (rows_to name state.next_place messages)
came_at name state (Connection c) (Commit messages) = []
came_at name state (Session s) (Commit messages) = rows_unless (is_none (commit_refusal state (Session s) messages)) (rows_to name state.next_place messages)

-- the state after a list of steps, and what the steps settled, dropped and brought, in order
abbrev pub state_after : State → List Step → State
state_after state [] = state
state_after state (s ∷ steps) = state_after (step state s.who s.call) steps

abbrev pub all_settled : List ℕ → State → List Step → List PlacedRow
all_settled name state [] = []
all_settled name state (s ∷ steps) = settled_at name state s.who s.call ++ all_settled name (step state s.who s.call) steps

abbrev pub all_dropped : List ℕ → State → List Step → List PlacedRow
all_dropped name state [] = []
all_dropped name state (s ∷ steps) = dropped_at name state s.who s.call ++ all_dropped name (step state s.who s.call) steps

abbrev pub all_came : List ℕ → State → List Step → List PlacedRow
all_came name state [] = []
all_came name state (s ∷ steps) = came_at name state s.who s.call ++ all_came name (step state s.who s.call) steps

-- Over every list of steps from a state that the provider reaches, what a queue held and what came to it is in exactly one
-- place: it is held there, waiting or out to one session, or it was settled once, or dropped once as expired. What neither
-- was held nor came is in none. It is said of each place and of whichever messages pass any test: so it is the message
-- itself that is held, settled or dropped, and no other in its stead.
abbrev pub QueueKeeps : Type 0
QueueKeeps =
    (state : State) (steps : List Step) (name : List ℕ) (place : ℕ) (passes : Content → Bool) → Reached state →
    (rows_holding passes place ((state_after state steps).queues name) + (rows_holding passes place (all_settled name state steps) + rows_holding passes place (all_dropped name state steps))
    ≡ rows_holding passes place (state.queues name) + rows_holding passes place (all_came name state steps))
    × (rows_at place (state.queues name) + rows_at place (all_came name state steps) ≤ 1)
