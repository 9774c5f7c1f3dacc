-- Which changes each kind of call asks for, and that they lead from what is stored before it to what is stored after it.
use Rattle.std.specs.Prelude.{◌≡◌, ℕ, ◌+◌, Bool, true, false, List, [], ◌∷◌, ◌++◌, ◌&&◌, Option, Some, None, IsOk, IsErr, MatchBool, if◌then◌else◌}
use Rattle.std.specs.List.{list_any}
use Rattle.jm_base.specs.declared.mode.Mode.{Mode}
use Rattle.jm_base.specs.declared.mode.Mode.TheVariants.{Client}
use Rattle.jm_dest.specs.declared.destination.Destination.{Destination}
use Rattle.jm_dest.specs.declared.destination.Destination.TheVariants.{Queue, Topic}
use Rattle.jm_dest.specs.declared.key.Key.{Key}
use Rattle.jm_dest.specs.declared.key.Key.TheVariants.{Queue as OfQueue}
use Rattle.jm_dest.specs.declared.session.SessionId.{SessionId}
use Rattle.jm_dest.specs.Keys.{key_eq}
use Rattle.jm_header.specs.declared.content.Content.{Content}
use Rattle.jm_machine.specs.declared.call.Who.{Who}
use Rattle.jm_machine.specs.declared.call.Who.TheVariants.{Connection, Session}
use Rattle.jm_machine.specs.declared.call.Request.{Request}
use Rattle.jm_machine.specs.declared.call.Request.TheVariants.{CreateDurable, CreateSharedDurable, Unsubscribe, Receive, Acknowledge, Take, Done}
use Rattle.jm_machine.specs.declared.call.Call.{Call}
use Rattle.jm_machine.specs.declared.call.Call.TheVariants.{Ask, Publish, Commit}
use Rattle.jm_machine.specs.declared.state.Definition.{Definition}
use Rattle.jm_machine.specs.declared.state.Row.{Row}
use Rattle.jm_machine.specs.Life.{client_of, is_started, mode_of}
use Rattle.jm_machine.specs.Rows.{settles_at_once}
use Rattle.jm_machine.specs.Machine.{State, asked, consumer_of, definition_of, durable_of, is_client, key_at, of_number, of_session, reply, same_definition, selected_by, station_of, step}
use Rattle.jm_machine.specs.Under.{is_persistent, lasts_at, next_under, placed_under}
use Rattle.jm_keep.specs.declared.change.RowChange.{RowChange}
use Rattle.jm_keep.specs.declared.change.RowChange.TheVariants.{DropStation, PutStation}
use Rattle.jm_keep.specs.Persisted.{is_lasting, LeadsTo}
use Rattle.jm_keep.specs.Leads.{drops, puts}
use Rattle.jm_keep.specs.Steps.{StandsInOrder, AreGone, taken_under, lapsed_under, out_through, out_under, all_under, counted}

-- Publications

-- the station of a queue stands before its first row; that of a subscription stands already
abbrev pub queue_station : Destination → List RowChange
queue_station (Queue name) = PutStation (OfQueue name) None ∷ []
queue_station (Topic name) = []

-- a message comes to those keys at the place, where there is one
abbrev pub come : Content → ℕ → List Key → List RowChange
come m place [] = []
come m place (key ∷ keys) = queue_station m.destination ++ puts (key ∷ keys) place m

-- what is published there is stored where it is PERSISTENT
abbrev pub brought : Content → ℕ → List Key → List RowChange
brought m place keys = if is_persistent m.mode then come m place keys else []

-- the keys are those of queues and of durable subscriptions that take the message
abbrev pub AreTakers : State → Content → List Key → Type 0
AreTakers state m keys = (key : Key) → list_any (λ k. key_eq k key) keys ≡ lasts_at state m key

-- the changes by which messages come that are published in turn, from the place on. Which keys take a PERSISTENT one is
-- asked of the state before all of them
abbrev pub ArePublished : State → ℕ → List Content → List RowChange → Type 0
ArePublished state place [] changes = changes ≡ []
ArePublished state place (m ∷ messages) changes =
    (keys : List Key) × (rest : List RowChange) × (is_persistent m.mode ≡ true → AreTakers state m keys) ×
    ArePublished state (place + 1) messages rest × (changes ≡ brought m place keys ++ rest)

-- Rows that go

-- the changes are that the rows which go are dropped, and with them each message of which none is left, with its delivery
-- time where it has a delay; and then those
pub record DropsThen (goes : Key → ℕ → Row → Bool) (state : State) (others changes : List RowChange) : Type 0 where
  pub rows : List (Key × ℕ)
  pub delays : List ℕ
  pub places : List ℕ
  pub are_gone : AreGone goes state rows delays places
  pub changes_are : changes ≡ drops rows delays places ++ others

-- Requests

-- a delivery in that mode from a key: rows that have lapsed go, and the next one goes too or is counted
abbrev pub AreDelivered : Option Mode → (Content → Bool) → ℕ → Key → State → List RowChange → Type 0
AreDelivered mode p now k state changes =
    MatchBool (is_lasting k)
    (MatchBool (settles_at_once mode)
    (DropsThen (taken_under k now (next_under p now k (placed_under state k))) state [] changes)
    (DropsThen (lapsed_under k now) state (counted k (next_under p now k (placed_under state k))) changes))
    (changes ≡ [])

-- from the key of a consumer, where it was made
abbrev pub AreReceived : Option Mode → (Content → Bool) → ℕ → Option Key → State → List RowChange → Type 0
AreReceived mode p now None state changes = changes ≡ []
AreReceived mode p now (Some k) state changes = AreDelivered mode p now k state changes

-- a listener is done with its message: of its consumer's key, where it was made, the rows go that are out through this
-- consumer
abbrev pub AreDone : (SessionId → ℕ → Bool) → Option Key → State → List RowChange → Type 0
AreDone p None state changes = changes ≡ []
AreDone p (Some k) state changes = MatchBool (is_lasting k) (DropsThen (out_under k p) state [] changes) (changes ≡ [])

-- a durable subscription that asks for that is made, where none stands; one that asks for the same is joined, and another
-- replaced
abbrev pub AreSubscribed : Key → Definition → Option Definition → State → List RowChange → Type 0
AreSubscribed k d None state changes = changes ≡ PutStation k (Some d) ∷ []
AreSubscribed k d (Some old) state changes =
    MatchBool (same_definition old d) (changes ≡ []) (DropsThen (all_under k) state (DropStation k ∷ PutStation k (Some d) ∷ []) changes)

-- the changes that a session's request asks for. What a listener lasts_at is out in every mode, as in a session whose client
-- acknowledges
abbrev pub AreRequested : State → SessionId → Request → List RowChange → Type 0
AreRequested state s (CreateDurable c destination name selector no_local) changes =
    AreSubscribed (durable_of (client_of state.life) s name) (asked destination selector no_local false) (definition_of (station_of (durable_of (client_of state.life) s name) state.stations)) state changes
AreRequested state s (CreateSharedDurable c destination name selector) changes =
    AreSubscribed (durable_of (client_of state.life) s name) (asked destination selector false true) (definition_of (station_of (durable_of (client_of state.life) s name) state.stations)) state changes
AreRequested state s (Unsubscribe name) changes =
    DropsThen (all_under (durable_of (client_of state.life) s name)) state (DropStation (durable_of (client_of state.life) s name) ∷ []) changes
AreRequested state s (Receive c now) changes =
    MatchBool (is_started state.life s.connection)
    (AreReceived (mode_of state.life s) (selected_by (consumer_of state.consumers s c)) now (key_at (consumer_of state.consumers s c)) state changes)
    (changes ≡ [])
AreRequested state s Acknowledge changes = MatchBool (is_client (mode_of state.life s)) (DropsThen (out_through (of_session s)) state [] changes) (changes ≡ [])
AreRequested state s (Take c now) changes =
    MatchBool (is_started state.life s.connection)
    (AreReceived (Some Client) (selected_by (consumer_of state.consumers s c)) now (key_at (consumer_of state.consumers s c)) state changes)
    (changes ≡ [])
AreRequested state s (Done c ok) changes =
    MatchBool (ok && settles_at_once (mode_of state.life s)) (AreDone (of_number s c) (key_at (consumer_of state.consumers s c)) state changes) (changes ≡ [])
AreRequested state s _ changes = changes ≡ []

-- Calls

-- the changes that a commit asks for: what is out to the session is settled, and then the messages are published
pub record AreCommitted (state : State) (s : SessionId) (messages : List Content) (changes : List RowChange) : Type 0 where
  pub published : List RowChange
  pub are_published : ArePublished state state.next_place messages published
  pub are_settled : DropsThen (out_through (of_session s)) state published changes

-- the changes that a call asks for, where it is not refused
abbrev pub AreChanges : State → Who → Call → List RowChange → Type 0
AreChanges state (Connection c) call changes = changes ≡ []
AreChanges state (Session s) (Ask request) changes = AreRequested state s request changes
AreChanges state (Session s) (Publish messages) changes = ArePublished state state.next_place messages changes
AreChanges state (Session s) (Commit messages) changes = AreCommitted state s messages changes

-- in each state whose rows stand in order, the changes of a call that is not refused lead from what is stored before it to
-- what is stored after it
abbrev pub ChangesLead : Type 0
ChangesLead = (state : State) (who : Who) (call : Call) (changes : List RowChange) → StandsInOrder state → IsOk (reply state who call) → AreChanges state who call changes → LeadsTo state (step state who call) changes

-- a call that is refused changes nothing of what is stored
abbrev pub RefusedLeads : Type 0
RefusedLeads = (state : State) (who : Who) (call : Call) → IsErr (reply state who call) → LeadsTo state (step state who call) []
