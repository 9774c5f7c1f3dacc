-- What becomes of a subscription's messages: each that it held or that came to it is held there, or was settled, or was dropped as expired,
-- or went with the subscription.
use Rattle.std.specs.Prelude.{◌≡◌, ℕ, ◌+◌, ◌≤◌, Bool, true, false, ◌&&◌, not, List, [], ◌∷◌, ◌++◌, filter, length, Option, Some, None, is_none, if◌then◌else◌}
use Rattle.jm_dest.specs.declared.key.Key.{Key}
use Rattle.jm_dest.specs.Keys.{key_eq}
use Rattle.jm_header.specs.declared.content.Content.{Content}
use Rattle.jm_machine.specs.declared.call.Who.{Who}
use Rattle.jm_machine.specs.declared.call.Who.TheVariants.{Connection, Session}
use Rattle.jm_machine.specs.declared.call.Request.{Request}
use Rattle.jm_machine.specs.declared.call.Request.TheVariants.{CloseConnection, CloseSession, CreateDurable, CreateSharedDurable, Unsubscribe, CloseConsumer, Receive, Acknowledge, Take, Done as DoneWith}
use Rattle.jm_machine.specs.declared.call.Call.{Call}
use Rattle.jm_machine.specs.declared.call.Call.TheVariants.{Ask, Publish, Commit}
use Rattle.jm_machine.specs.declared.call.Step.{Step}
use Rattle.jm_machine.specs.declared.state.Definition.{Definition}
use Rattle.jm_machine.specs.declared.state.PlacedRow.{PlacedRow}
use Rattle.jm_machine.specs.declared.state.Station.{Station}
use Rattle.jm_machine.specs.Life.{client_of, is_started, mode_of}
use Rattle.jm_machine.specs.Rows.{bare, fresh, has_lapsed, is_next, is_out, live, live_placed, settles_at_once}
use Rattle.jm_machine.specs.Machine.{State, Publisher, publisher_of, accepts, is_full, with_message, station_of, definition_of, consumer_of, key_at, durable_of, asked, is_same, of_session, of_connection, of_number, ends, is_client, settled, held, refusal, publish_refusal, commit_refusal, step}
use Rattle.jm_machine.specs.Isolation.{Reached}
use Rattle.jm_machine.specs.Places.{rows_at, rows_holding}
use Rattle.jm_machine.specs.Queues.{first_row, rows_unless, state_after}
use Rattle.jm_machine.specs.Under.{is_key}

-- the rows of a subscription that there is
abbrev pub placed_of : Option Station → List PlacedRow
placed_of None = []
placed_of (Some x) = x.rows

-- the rows that are held under the key
abbrev pub held_under : Key → State → List PlacedRow
held_under key state = placed_of (station_of key state.stations)

-- the row of a subscription that a receive delivers
abbrev pub next_row : ℕ → List PlacedRow → List PlacedRow
next_row now rows = first_row (is_next now (live now (bare rows))) (live_placed now rows)

-- what a request that is not refused settles of the key: a client's acknowledgement all that is out to its session, a
-- receive of a session that settles at once the row that it delivers, and in such a session a listener that is done what is
-- out through its consumer, unless that is given back
abbrev pub settles_under : Key → State → Who → Request → List PlacedRow
settles_under key state (Session s) Acknowledge = if is_client (mode_of state.life s) then filter (λ x. is_out (of_session s) x.row) (held_under key state) else []
settles_under key state (Session s) (Receive c now) =
    if is_started state.life s.connection && (is_key key (key_at (consumer_of state.consumers s c)) && settles_at_once (mode_of state.life s))
    then next_row now (held_under key state)
    else []
settles_under key state (Session s) (DoneWith c ok) =
    if ok && (is_key key (key_at (consumer_of state.consumers s c)) && settles_at_once (mode_of state.life s))
    then filter (λ x. is_out (of_number s c) x.row) (held_under key state)
    else []
settles_under key state _ _ = []

-- what it drops: a receive from the subscription, or a take, the rows that have lapsed
abbrev pub drops_under : Key → State → Who → Request → List PlacedRow
drops_under key state (Session s) (Receive c now) =
    if is_started state.life s.connection && is_key key (key_at (consumer_of state.consumers s c)) then filter (λ x. has_lapsed now x.row) (held_under key state) else []
drops_under key state (Session s) (Take c now) =
    if is_started state.life s.connection && is_key key (key_at (consumer_of state.consumers s c)) then filter (λ x. has_lapsed now x.row) (held_under key state) else []
drops_under key state _ _ = []

-- the durable subscription that is had is the key's, and there is none that asks for the same
abbrev pub is_replaced : Key → Key → Definition → State → Bool
is_replaced key had d state = key_eq had key && not (is_same (definition_of (station_of had state.stations)) d)

-- a request that is not refused ends the key's subscription: its consumers close, another takes its place, or it is deleted
abbrev pub is_ended : Key → State → Who → Request → Bool
is_ended key state (Connection c) CloseConnection = ends (of_connection c) state.consumers key
is_ended key state (Session s) CloseSession = ends (of_session s) state.consumers key
is_ended key state (Session s) (CloseConsumer c) = ends (of_number s c) state.consumers key
is_ended key state (Session s) (CreateDurable c destination name selector no_local) = is_replaced key (durable_of (client_of state.life) s name) (asked destination selector no_local false) state
is_ended key state (Session s) (CreateSharedDurable c destination name selector) = is_replaced key (durable_of (client_of state.life) s name) (asked destination selector false true) state
is_ended key state (Session s) (Unsubscribe name) = key_eq (durable_of (client_of state.life) s name) key
is_ended key state _ _ = false

-- what goes with it: all its rows
abbrev pub goes_under : Key → State → Who → Request → List PlacedRow
goes_under key state who request = if is_ended key state who request then held_under key state else []

-- what a step settles of the key; a commit settles all that is out to its session
unfoldable pub settled_under : Key → State → Who → Call → List PlacedRow
settled_under key state who (Ask request) = rows_unless (is_none (refusal state.life state.consumers (held state who request) who request)) (settles_under key state who request)
settled_under key state who (Publish messages) = []
settled_under key state (Connection c) (Commit messages) = []
settled_under key state (Session s) (Commit messages) = rows_unless (is_none (commit_refusal state (Session s) messages)) (filter (λ x. is_out (of_session s) x.row) (held_under key state))

-- what it drops
unfoldable pub dropped_under : Key → State → Who → Call → List PlacedRow
dropped_under key state who (Ask request) = rows_unless (is_none (refusal state.life state.consumers (held state who request) who request)) (drops_under key state who request)
dropped_under key state who _ = []

-- what goes with its subscription
unfoldable pub gone_under : Key → State → Who → Call → List PlacedRow
gone_under key state who (Ask request) = rows_unless (is_none (refusal state.life state.consumers (held state who request) who request)) (goes_under key state who request)
gone_under key state who _ = []

-- the row of a message at the place, where there is a subscription that accepts it and is not at its limit
abbrev pub row_for : ℕ → Publisher → Content → ℕ → Option Station → List PlacedRow
row_for limit publisher m place None = []
row_for limit publisher m place (Some x) =
    if accepts x.key x.definition publisher m && not (is_full limit x.key (length x.rows)) then record { place = place; row = fresh m } ∷ [] else []

-- the rows of messages that are published in the state, each where those before it are published
abbrev pub rows_for : Key → State → List Content → List PlacedRow
rows_for key state [] = []
rows_for key state (m ∷ messages) = row_for state.limit (publisher_of state.life m) m state.next_place (station_of key state.stations) ++ rows_for key (with_message state m) messages

-- what a step brings to the key's subscription; a commit publishes once its session's messages are settled
unfoldable pub came_under : Key → State → Who → Call → List PlacedRow
came_under key state who (Ask request) = []
came_under key state who (Publish messages) = rows_unless (is_none (publish_refusal state who messages)) (rows_for key state messages)
came_under key state (Connection c) (Commit messages) = []
came_under key state (Session s) (Commit messages) = rows_unless (is_none (commit_refusal state (Session s) messages)) (rows_for key (settled (of_session s) state) messages)

-- what the steps settled of the key, in order
abbrev pub all_settled_under : Key → State → List Step → List PlacedRow
all_settled_under key state [] = []
all_settled_under key state (s ∷ steps) = settled_under key state s.who s.call ++ all_settled_under key (step state s.who s.call) steps

-- what they dropped
abbrev pub all_dropped_under : Key → State → List Step → List PlacedRow
all_dropped_under key state [] = []
all_dropped_under key state (s ∷ steps) = dropped_under key state s.who s.call ++ all_dropped_under key (step state s.who s.call) steps

-- what went with the subscriptions that the key had
abbrev pub all_gone_under : Key → State → List Step → List PlacedRow
all_gone_under key state [] = []
all_gone_under key state (s ∷ steps) = gone_under key state s.who s.call ++ all_gone_under key (step state s.who s.call) steps

-- what came to them
abbrev pub all_came_under : Key → State → List Step → List PlacedRow
all_came_under key state [] = []
all_came_under key state (s ∷ steps) = came_under key state s.who s.call ++ all_came_under key (step state s.who s.call) steps

-- Over every list of steps from a state that the provider reaches, what a subscription held and what came to it, a shared one
-- too, is in exactly one place: it is held there, waiting or out to one session, or it was settled once, or dropped once as
-- expired, or it went once with the subscription. What neither was held nor came is in none. It is said of each place and
-- of whichever messages pass any test: so it is the message itself that is held, settled, dropped or gone.
abbrev pub SubscriptionKeeps : Type 0
SubscriptionKeeps =
    (state : State) (steps : List Step) (key : Key) (place : ℕ) (passes : Content → Bool) → Reached state →
    (rows_holding passes place (held_under key (state_after state steps))
    + (rows_holding passes place (all_settled_under key state steps)
    + (rows_holding passes place (all_dropped_under key state steps) + rows_holding passes place (all_gone_under key state steps)))
    ≡ rows_holding passes place (held_under key state) + rows_holding passes place (all_came_under key state steps))
    × (rows_at place (held_under key state) + rows_at place (all_came_under key state steps) ≤ 1)
