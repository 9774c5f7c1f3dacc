-- Steps that are planned: what listing reads of them.
use Rattle.std.specs.Prelude.{◌≡◌, ◌≤◌, ◌+◌, ℕ, true, false, List, length, Option, Some, None, option_map, MatchBool}
use Rattle.jm_dest.specs.declared.key.Key.{Key}
use Rattle.jm_dest.specs.declared.session.SessionId.{SessionId}
use Rattle.jm_header.specs.declared.content.Content.{Content}
use Rattle.jm_machine.specs.declared.call.Who.{Who}
use Rattle.jm_machine.specs.declared.call.Who.TheVariants.{Connection, Session}
use Rattle.jm_machine.specs.declared.call.Request.{Request}
use Rattle.jm_machine.specs.declared.call.Request.TheVariants.{CreateDurable, CreateSharedDurable, Receive, Take, Unsubscribe}
use Rattle.jm_machine.specs.declared.call.Call.{Call}
use Rattle.jm_machine.specs.declared.call.Call.TheVariants.{Ask, Publish, Commit}
use Rattle.jm_machine.specs.declared.state.Consumer.{Consumer}
use Rattle.jm_machine.specs.declared.state.Definition.{Definition}
use Rattle.jm_machine.specs.declared.state.PlacedRow.{PlacedRow}
use Rattle.jm_machine.specs.Life.{client_of, is_started}
use Rattle.jm_machine.specs.Machine.{State, asked, consumer_of, definition_of, durable_of, places_end, same_definition, selected_by, station_of}
use Rattle.jm_machine.specs.Under.{next_under, placed_under}

-- a subscription of the key that asks for that is decided where none stands, or one that asks for another thing
abbrev pub IsDecided : Key → Definition → Option Definition → Option (Key × Definition) → Type 0
IsDecided k d None decided = decided ≡ Some (k, d)
IsDecided k d (Some old) decided = MatchBool (same_definition old d) (decided ≡ None) (decided ≡ Some (k, d))

-- the place is that of the row which a delivery to the session's consumer takes, while its connection is started
abbrev pub IsTaken : State → SessionId → ℕ → ℕ → Option ℕ → Type 0
IsTaken state s c now taken =
    (x : Consumer) → is_started state.life s.connection ≡ true → consumer_of state.consumers s c ≡ Some x →
    taken ≡ option_map (λ (r : PlacedRow). r.place) (next_under (selected_by (Some x)) now x.key (placed_under state x.key))

-- what a request of the session was planned to delete, and to put, and the place of the row that it was planned to take
abbrev pub IsPlannedRequest : State → SessionId → Request → Option Key → Option (Key × Definition) → Option ℕ → Type 0
IsPlannedRequest state s (CreateDurable c destination name selector no_local) deleted decided taken =
    IsDecided (durable_of (client_of state.life) s name) (asked destination selector no_local false) (definition_of (station_of (durable_of (client_of state.life) s name) state.stations)) decided
IsPlannedRequest state s (CreateSharedDurable c destination name selector) deleted decided taken =
    IsDecided (durable_of (client_of state.life) s name) (asked destination selector false true) (definition_of (station_of (durable_of (client_of state.life) s name) state.stations)) decided
IsPlannedRequest state s (Unsubscribe name) deleted decided taken = deleted ≡ Some (durable_of (client_of state.life) s name)
IsPlannedRequest state s (Receive c now) deleted decided taken = IsTaken state s c now taken
IsPlannedRequest state s (Take c now) deleted decided taken = IsTaken state s c now taken
IsPlannedRequest state s request deleted decided taken = Unit {0}

-- and which messages a call publishes, for which places are left
abbrev pub IsPlannedCall : State → Who → Call → Option Key → Option (Key × Definition) → Option ℕ → List Content → Type 0
IsPlannedCall state (Connection c) call deleted decided taken messages = Unit {0}
IsPlannedCall state (Session s) (Ask request) deleted decided taken messages = IsPlannedRequest state s request deleted decided taken
IsPlannedCall state (Session s) (Publish sent) deleted decided taken messages = (messages ≡ sent) × (state.next_place + length sent ≤ places_end)
IsPlannedCall state (Session s) (Commit sent) deleted decided taken messages = (messages ≡ sent) × (state.next_place + length sent ≤ places_end)
