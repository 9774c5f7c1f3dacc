-- Where memory may be wanted: only a call that takes memory may be told so, whatever else is told to it.
use Rattle.std.specs.Prelude.{ℕ, Bool, true, false, not, ◌&&◌, ◌||◌, ◌==◌, List, [], Option, Some, None, find, count_by, sum_by, is_some, is_none, Result, Err}
use Rattle.jm_base.specs.declared.mode.Mode.{Mode}
use Rattle.jm_base.specs.declared.mode.Mode.TheVariants.{Client}
use Rattle.jm_base.specs.declared.refusal.Refusal.{Refusal}
use Rattle.jm_base.specs.declared.refusal.Refusal.TheVariants.{Memory}
use Rattle.jm_dest.specs.declared.key.Key.{Key}
use Rattle.jm_dest.specs.declared.key.Key.TheVariants.{Own, SharedOwn, Durable, Queue as OfQueue}
use Rattle.jm_header.specs.declared.content.Content.{Content}
use Rattle.jm_machine.specs.declared.call.Who.{Who}
use Rattle.jm_machine.specs.declared.call.Who.TheVariants.{Connection, Session}
use Rattle.jm_machine.specs.declared.call.Request.{Request}
use Rattle.jm_machine.specs.declared.call.Request.TheVariants.{Open, CreateSession, CreateConsumer, CreateDurable, CreateShared, CreateSharedDurable, Unsubscribe, Receive, Take}
use Rattle.jm_machine.specs.declared.call.Call.{Call}
use Rattle.jm_machine.specs.declared.call.Call.TheVariants.{Ask, Publish, Commit}
use Rattle.jm_machine.specs.declared.answer.Answer.{Answer}
use Rattle.jm_machine.specs.declared.state.PlacedRow.{PlacedRow}
use Rattle.jm_machine.specs.declared.state.Station.{Station}
use Rattle.jm_machine.specs.Life.{client_of, connection_of, is_client_taken, is_new_session, is_started, mode_of}
use Rattle.jm_machine.specs.Rows.{bare, is_next, is_next_chosen, live, live_placed, settles_at_once}
use Rattle.jm_machine.specs.Machine.{State, is_of_topic, consumer_of, key_at, may_begin, may_receive, may_take, publish_refusal, commit_refusal, selected_by, station_of}

-- a reply that says that memory was wanted
abbrev pub is_want : Result Answer Refusal → Bool
is_want (Err Memory) = true
is_want _ = false

-- the row that a delivery at that moment takes
abbrev pub next_placed : ℕ → List PlacedRow → Option PlacedRow
next_placed now rows = find (λ x. is_next now (live now (bare rows)) x.row) (live_placed now rows)

-- the row that a delivery at that moment takes of those whose messages pass
abbrev pub next_chosen : (Content → Bool) → ℕ → List PlacedRow → Option PlacedRow
next_chosen p now rows = find (λ x. is_next_chosen p now (live now (bare rows)) x.row) (live_placed now rows)

-- how many rows of all subscriptions stand at the place: each holds the message that was published there
abbrev pub holders_of : ℕ → List Station → ℕ
holders_of place stations = sum_by (λ (x : Station). count_by (λ (r : PlacedRow). r.place == place) x.rows) stations

-- a row of a subscription is next, and its message is held after its delivery in that mode: the row stays, or another
-- row holds the message too
abbrev pub is_held_after : Option Mode → List Station → Option PlacedRow → Bool
is_held_after mode stations None = false
is_held_after mode stations (Some x) = not (settles_at_once mode) || not (holders_of x.place stations == 1)

-- the rows of a subscription that there is, at their places
abbrev pub placed_rows : Option Station → List PlacedRow
placed_rows None = []
placed_rows (Some x) = x.rows

-- a row of a queue is next, and its message is held after its delivery in that mode: the row stays, since no other holds
-- the message
abbrev pub is_queued_after : Option Mode → Option PlacedRow → Bool
is_queued_after mode x = not (settles_at_once mode) && is_some x

-- a row is next under the key, of a queue one whose message passes, and its message is held after its delivery in that mode
abbrev pub is_next_held_after : Option Mode → ℕ → (Content → Bool) → Option Key → State → Bool
is_next_held_after mode now p None state = false
is_next_held_after mode now p (Some (OfQueue name)) state = is_queued_after mode (next_chosen p now (state.queues name))
is_next_held_after mode now p (Some (Own s c)) state = is_held_after mode state.stations (next_placed now (placed_rows (station_of (Own s c) state.stations)))
is_next_held_after mode now p (Some (SharedOwn client name)) state = is_held_after mode state.stations (next_placed now (placed_rows (station_of (SharedOwn client name) state.stations)))
is_next_held_after mode now p (Some (Durable client name)) state = is_held_after mode state.stations (next_placed now (placed_rows (station_of (Durable client name) state.stations)))

-- a request takes memory, where none of the causes stands that are seen before. It opens a connection or a session. It makes
-- a consumer: its selector is parsed, so a want of memory may come in place of the selector's refusal, and of each later one.
-- It deletes a subscription in an open session: the name is looked for. It receives: the consumer may receive, a row is next,
-- and its message is held after it, so a copy is handed out. It takes: the consumer's listener may take, a row is next, and
-- its message is held after it, as after each take, which is as in a session whose client acknowledges. To start and to
-- stop, to close, to acknowledge, to recover and to roll back takes no memory, and so do to set a listener, to be done with a
-- message, and to ask how many were missed
abbrev pub takes_memory : State → Who → Request → Bool
takes_memory state (Connection c) (Open client) = not (is_some (connection_of state.life.connections c)) && not (is_client_taken state.life client)
takes_memory state (Session s) (CreateSession mode) = is_new_session state.life s
takes_memory state (Session s) (CreateConsumer c destination selector no_local) = may_begin state.life state.consumers s c
takes_memory state (Session s) (CreateDurable c destination name selector no_local) = may_begin state.life state.consumers s c && is_some (client_of state.life s.connection) && is_of_topic destination
takes_memory state (Session s) (CreateShared c destination name selector) = may_begin state.life state.consumers s c && is_of_topic destination
takes_memory state (Session s) (CreateSharedDurable c destination name selector) = may_begin state.life state.consumers s c && is_of_topic destination
takes_memory state (Session s) (Unsubscribe name) = is_some (mode_of state.life s)
takes_memory state (Session s) (Receive c now) =
    may_receive state.life state.consumers s c && (is_started state.life s.connection && is_next_held_after (mode_of state.life s) now (selected_by (consumer_of state.consumers s c)) (key_at (consumer_of state.consumers s c)) state)
takes_memory state (Session s) (Take c now) =
    may_take state.life state.consumers s c && (is_started state.life s.connection && is_next_held_after (Some Client) now (selected_by (consumer_of state.consumers s c)) (key_at (consumer_of state.consumers s c)) state)
takes_memory state _ _ = false

-- memory may be wanted by a call: a request that takes it, or a publication or a commit that is not refused
unfoldable pub may_want : State → Who → Call → Bool
may_want state who (Ask request) = takes_memory state who request
may_want state who (Publish messages) = is_none (publish_refusal state who messages)
may_want state who (Commit messages) = is_none (commit_refusal state who messages)
