-- The provider as a machine: one state, and for each call an answer or a refusal.
use Rattle.std.specs.Prelude.{ℕ, ◌+◌, Bool, true, false, ◌&&◌, ◌||◌, not, ◌==◌, nat_le, nat_lt, List, [], ◌∷◌, ◌++◌, filter, map, find, length, Option, Some, None, is_some, Result, Ok, Err, if◌then◌else◌}
use Rattle.std.specs.List.{list_all, list_any}
use Rattle.jm_base.specs.declared.mode.Mode.{Mode}
use Rattle.jm_base.specs.declared.mode.Mode.TheVariants.{Auto, Client, Dups, Transacted}
use Rattle.jm_base.specs.declared.refusal.Refusal.{Refusal}
use Rattle.jm_base.specs.declared.refusal.Refusal.TheVariants.{IllegalState, InvalidDestination, InvalidClientId, SubscriptionInUse, Exhausted}
use Rattle.jm_dest.specs.declared.session.SessionId.{SessionId}
use Rattle.jm_dest.specs.declared.destination.Destination.{Destination}
use Rattle.jm_dest.specs.declared.destination.Destination.TheVariants.{Queue, Topic}
use Rattle.jm_dest.specs.declared.key.Key.{Key}
use Rattle.jm_dest.specs.declared.key.Key.TheVariants.{Own, SharedOwn, Durable, Queue as OfQueue}
use Rattle.jm_dest.specs.Names.{text_eq, client_eq, session_eq}
use Rattle.jm_dest.specs.Numbers.{long_end}
use Rattle.jm_dest.specs.Keys.{key_eq}
use Rattle.jm_header.specs.declared.content.Content.{Content}
use Rattle.jm_machine.specs.declared.call.Who.{Who}
use Rattle.jm_machine.specs.declared.call.Who.TheVariants.{Connection, Session}
use Rattle.jm_machine.specs.declared.call.Request.{Request}
use Rattle.jm_machine.specs.declared.call.Request.TheVariants.{Open, Start, Stop, CloseConnection, CreateSession, CloseSession, CreateConsumer, CreateDurable, CreateShared, CreateSharedDurable, Unsubscribe, CloseConsumer, Receive, Acknowledge, Recover, Rollback, Missed, SetListener, Take, Done as DoneWith}
use Rattle.jm_machine.specs.declared.call.Call.{Call}
use Rattle.jm_machine.specs.declared.call.Call.TheVariants.{Ask, Publish, Commit}
use Rattle.jm_machine.specs.declared.consumers.Consumers.{Consumers}
use Rattle.jm_machine.specs.declared.consumers.Consumers.TheVariants.{OfConnection, OfSession, One}
use Rattle.jm_machine.specs.declared.answer.Answer.{Answer}
use Rattle.jm_machine.specs.declared.answer.Answer.TheVariants.{Done, Delivered, Nothing, Missed as MissedSoFar}
use Rattle.jm_machine.specs.declared.state.Row.{Row}
use Rattle.jm_machine.specs.declared.state.PlacedRow.{PlacedRow}
use Rattle.jm_machine.specs.declared.state.Station.{Station}
use Rattle.jm_machine.specs.declared.state.Definition.{Definition}
use Rattle.jm_machine.specs.declared.state.Consumer.{Consumer}
use Rattle.jm_machine.specs.Life.{Life, connection_of, session_of, client_of, is_open_connection, is_closed_connection, is_client_taken, mode_of, is_started, is_new_session, life_after}
use Rattle.jm_selector.specs.Selectors.{selector_read, selector_refusal, standing, matches}
use Rattle.jm_machine.specs.Rows.{protected, fresh, is_out, given_back, live, next, raised, left_of, taken, settles_at_once, bare, chosen, deliver_placed, deliver_chosen, InOrder}

-- all that the provider holds
pub record State : Type 0 where
  -- the number of this opening of the provider
  pub opening : ℕ
  -- how many rows a subscription that is not durable may hold
  pub limit : ℕ
  pub life : Life
  -- the consumers that were made, in order
  pub consumers : List Consumer
  -- the subscriptions, each with its rows, in order of creation
  pub stations : List Station
  -- what each queue holds, by its name: rows by place
  pub queues : List ℕ → List PlacedRow
  -- the place of the next publication
  pub next_place : ℕ

-- the state of a new core, in that opening and with that limit
abbrev pub new_core : ℕ → ℕ → State
new_core opening limit = record { opening = opening; limit = limit; life = record { connections = []; sessions = [] }; consumers = []; stations = []; queues = λ name. []; next_place = 1 }

-- what is held under the key
abbrev pub station_of : Key → List Station → Option Station
station_of key stations = find (λ x. key_eq x.key key) stations

-- the definition of a subscription that there is
abbrev pub definition_of : Option Station → Option Definition
definition_of None = None
definition_of (Some x) = Some x.definition

-- how many publications it missed
abbrev pub missed_of : Option Station → ℕ
missed_of None = 0
missed_of (Some x) = x.missed

-- its rows, without their places
abbrev pub rows_of : Option Station → List Row
rows_of None = []
rows_of (Some x) = bare x.rows

-- a station with other rows
abbrev pub with_rows : (List PlacedRow → List PlacedRow) → Station → Station
with_rows f x = record { key = x.key; definition = x.definition; missed = x.missed; rows = f x.rows }

-- a change of what is held under one key
abbrev pub at_key : Key → (Station → Station) → List Station → List Station
at_key key f [] = []
at_key key f (x ∷ stations) = if key_eq x.key key then f x ∷ stations else x ∷ at_key key f stations

-- all but what is held under the key
abbrev pub without : Key → List Station → List Station
without key stations = filter (λ x. not (key_eq x.key key)) stations

-- other rows at the queue of that name
abbrev pub at_queue : List ℕ → (List PlacedRow → List PlacedRow) → (List ℕ → List PlacedRow) → List ℕ → List PlacedRow
at_queue name f queues other = if text_eq name other then f (queues other) else queues other

-- other rows at the queue whose key it is
abbrev pub at_queue_of : Key → (List PlacedRow → List PlacedRow) → (List ℕ → List PlacedRow) → List ℕ → List PlacedRow
at_queue_of (OfQueue name) f queues = at_queue name f queues
at_queue_of (Own s c) f queues = queues
at_queue_of (SharedOwn client name) f queues = queues
at_queue_of (Durable client name) f queues = queues

-- other rows at each queue
abbrev pub at_queues : (List PlacedRow → List PlacedRow) → (List ℕ → List PlacedRow) → List ℕ → List PlacedRow
at_queues f queues name = f (queues name)

-- the rows of each station stand by place, below the next place
abbrev pub AllInOrder : ℕ → List Station → Type 0
AllInOrder next_place [] = Unit {0}
AllInOrder next_place (x ∷ stations) = InOrder next_place x.rows × AllInOrder next_place stations

-- Publications

-- the destination is the topic
abbrev pub is_to : List ℕ → Destination → Bool
is_to topic (Queue name) = false
is_to topic (Topic name) = text_eq topic name

-- who publishes: the connection of the session that sent the message, and that connection's client
pub record Publisher : Type 0 where
  pub connection : ℕ
  pub client : Option (List ℕ)

-- who publishes the message
abbrev pub publisher_of : Life → Content → Publisher
publisher_of life m = record { connection = m.sender.session.connection; client = client_of life m.sender.session.connection }

-- a publisher is local to the key: of a consumer's own subscription it is the consumer's connection, and of a durable
-- one a connection that has the subscription's client identifier
abbrev pub is_local : Key → Publisher → Bool
is_local (OfQueue name) publisher = false
is_local (Own s c) publisher = publisher.connection == s.connection
is_local (SharedOwn client name) publisher = false
is_local (Durable client name) publisher = is_some client && client_eq publisher.client client

-- a subscription of the key accepts a publication: the topics are equal, the publisher is not local where it asks for none
-- that is, and the selector is absent or TRUE for the message (Jakarta Messaging 3.1, sections 4.2, 8.3.1 and 3.8.1)
unfoldable pub accepts : Key → Definition → Publisher → Content → Bool
accepts key definition publisher m =
    is_to definition.topic m.destination && (not (definition.no_local && is_local key publisher) && matches definition.selector m)

-- the rows of a subscription that is not durable have a limit (ours)
abbrev pub is_limited : Key → Bool
is_limited (OfQueue name) = false
is_limited (Own s c) = true
is_limited (SharedOwn client name) = true
is_limited (Durable client name) = false

-- a subscription of the key with so many rows, waiting and out, is at the limit
abbrev pub is_full : ℕ → Key → ℕ → Bool
is_full limit key rows = is_limited key && nat_le limit rows

-- the greatest number of missed publications
abbrev pub greatest_missed : ℕ
greatest_missed = 18446744073709551615

-- one more publication is missed; from the greatest number on it stays (ours)
abbrev pub one_missed : ℕ → ℕ
one_missed n = if nat_lt n greatest_missed then n + 1 else n

-- a message comes to a subscription at a place; at its limit the subscription misses it
abbrev pub brought : ℕ → Content → ℕ → Station → Station
brought limit m place x =
    if is_full limit x.key (length x.rows)
    then record { key = x.key; definition = x.definition; missed = one_missed x.missed; rows = x.rows }
    else with_rows (λ rows. rows ++ record { place = place; row = fresh m } ∷ []) x

-- a publisher's message comes to a subscription that accepts it
abbrev pub offered : ℕ → Publisher → Content → ℕ → Station → Station
offered limit publisher m place x = if accepts x.key x.definition publisher m then brought limit m place x else x

-- a message that is sent to a queue comes to it, at its place; a queue needs no creation (ours)
abbrev pub queued : Destination → Content → ℕ → (List ℕ → List PlacedRow) → List ℕ → List PlacedRow
queued (Queue name) m place queues = at_queue name (λ rows. rows ++ record { place = place; row = fresh m } ∷ []) queues
queued (Topic name) m place queues = queues

-- a message is published: it comes to its queue, or to each subscription that accepts it, and takes one place
abbrev pub with_message : State → Content → State
with_message state m = record state {
  stations = map (offered state.limit (publisher_of state.life m) m state.next_place) state.stations;
  queues = queued m.destination m state.next_place state.queues;
  next_place = state.next_place + 1;
}

-- messages are published, in order
unfoldable pub published : State → List Content → State
published state [] = state
published state (m ∷ messages) = published (with_message state m) messages

-- Consumers

-- the consumer is that one of the session
abbrev pub has_number : SessionId → ℕ → Consumer → Bool
has_number s c x = session_eq x.session s && (x.id == c)

-- the session's consumer of that number, where it was made
abbrev pub consumer_of : List Consumer → SessionId → ℕ → Option Consumer
consumer_of consumers s c = find (has_number s c) consumers

-- a consumer is active from its making to its closing
abbrev pub is_active : Option Consumer → Bool
is_active None = false
is_active (Some x) = x.is_active

-- a consumer listens: it is active, and its listener was set
abbrev pub is_listening : Option Consumer → Bool
is_listening None = false
is_listening (Some x) = x.is_active && x.is_listening

-- a consumer is busy from a take that came with a message until that is done, or the consumer closed
abbrev pub is_busy : Option Consumer → Bool
is_busy None = false
is_busy (Some x) = x.is_active && x.is_busy

-- a consumer, with that mark of its listener where it is that one
abbrev pub listening_if : SessionId → ℕ → Bool → Consumer → Consumer
listening_if s c on x = if has_number s c x then record x { is_listening = on } else x

-- the consumers, of which that one has that mark
abbrev pub set_listening : SessionId → ℕ → Bool → List Consumer → List Consumer
set_listening s c on consumers = map (listening_if s c on) consumers

-- a consumer, busy or not where it is that one
abbrev pub busy_if : SessionId → ℕ → Bool → Consumer → Consumer
busy_if s c on x = if has_number s c x then record x { is_busy = on } else x

-- the consumers, of which that one is busy or not
abbrev pub set_busy : SessionId → ℕ → Bool → List Consumer → List Consumer
set_busy s c on consumers = map (busy_if s c on) consumers

-- the key that a consumer receives from, where it was made
abbrev pub key_at : Option Consumer → Option Key
key_at None = None
key_at (Some x) = Some x.key

-- what a consumer of the destination receives from: the queue, or a subscription of its own
abbrev pub key_made : SessionId → ℕ → Destination → Key
key_made s c (Queue name) = OfQueue name
key_made s c (Topic name) = Own s c

-- the messages that a consumer's own selector selects, where the consumer was made; only one of a queue has a selector of
-- its own
abbrev pub selected_by : Option Consumer → Content → Bool
selected_by None m = false
selected_by (Some x) m = matches x.selector m

-- a new consumer, with its selector where it receives from a queue; that of a topic's stands with the subscription. It does
-- not listen
abbrev pub new_consumer : SessionId → ℕ → Key → Option (List ℕ) → Consumer
new_consumer s c key selector = record { session = s; id = c; key = key; selector = selector; is_active = true; is_listening = false; is_busy = false }

-- a selector as it stands: none where its text holds no token
abbrev pub standing_as : Option (List ℕ) → Option (List ℕ)
standing_as selector = standing selector (selector_read selector)

-- what a topic's subscription asks for
unfoldable pub defined : List ℕ → Option (List ℕ) → Bool → Bool → Definition
defined topic selector no_local shared = record { topic = topic; selector = standing_as selector; no_local = no_local; shared = shared }

-- an empty subscription of the key, in place of any other
abbrev pub put : Key → Definition → State → State
put key d state = record state { stations = without key state.stations ++ record { key = key; definition = d; missed = 0; rows = [] } ∷ [] }

-- a consumer joins
abbrev pub joined : SessionId → ℕ → Key → Option (List ℕ) → State → State
joined s c key selector state = record state { consumers = state.consumers ++ new_consumer s c key selector ∷ [] }

-- a consumer of the destination is made: of a topic with a subscription of its own, to which no_local applies alone
abbrev pub made : SessionId → ℕ → Destination → Option (List ℕ) → Bool → State → State
made s c (Queue name) selector no_local state = joined s c (OfQueue name) (standing_as selector) state
made s c (Topic name) selector no_local state = joined s c (Own s c) None (put (Own s c) (defined name selector no_local false) state)

-- Subscriptions that have names

-- the key of the durable subscription that a session means by the name: that of its connection's client
abbrev pub durable_of : (ℕ → Option (List ℕ)) → SessionId → List ℕ → Key
durable_of clients s name = Durable (clients s.connection) name

-- the key of the shared non-durable one
abbrev pub shared_of : (ℕ → Option (List ℕ)) → SessionId → List ℕ → Key
shared_of clients s name = SharedOwn (clients s.connection) name

-- the key that a creating request names, the connections having these clients; none where it creates no consumer
abbrev pub key_created : (ℕ → Option (List ℕ)) → SessionId → Request → Option Key
key_created clients s (CreateConsumer c destination selector no_local) = Some (key_made s c destination)
key_created clients s (CreateDurable c destination name selector no_local) = Some (durable_of clients s name)
key_created clients s (CreateShared c destination name selector) = Some (shared_of clients s name)
key_created clients s (CreateSharedDurable c destination name selector) = Some (durable_of clients s name)
key_created clients s _ = None

-- two marks are the same
abbrev pub same_mark : Bool → Bool → Bool
same_mark a b = if a then b else not b

-- two selectors as they stand are the same
abbrev pub same_selector : Option (List ℕ) → Option (List ℕ) → Bool
same_selector None None = true
same_selector None (Some b) = false
same_selector (Some a) None = false
same_selector (Some a) (Some b) = text_eq a b

-- two subscriptions ask for the same
abbrev pub same_definition : Definition → Definition → Bool
same_definition a b = text_eq a.topic b.topic && same_selector a.selector b.selector && same_mark a.no_local b.no_local && same_mark a.shared b.shared

-- there is a subscription, and it asks for that
abbrev pub is_same : Option Definition → Definition → Bool
is_same None d = false
is_same (Some x) d = same_definition x d

-- there is no subscription, or it is shared as that one is
abbrev pub is_same_kind : Option Definition → Definition → Bool
is_same_kind None d = true
is_same_kind (Some x) d = same_mark x.shared d.shared

-- a consumer attaches to the subscription where it asks for the same; else a new one takes the place of any other
abbrev pub subscribed : SessionId → ℕ → Key → Definition → State → State
subscribed s c key d state = joined s c key None (if is_same (definition_of (station_of key state.stations)) d then state else put key d state)

-- the subscription is deleted, with its rows
abbrev pub deleted : Key → State → State
deleted key state = record state { stations = without key state.stations }

-- Acknowledgement and closing

-- a consumer is one of the session
abbrev pub of_session : SessionId → SessionId → ℕ → Bool
of_session s t d = session_eq t s

-- a consumer is one of the connection's sessions
abbrev pub of_connection : ℕ → SessionId → ℕ → Bool
of_connection c t d = t.connection == c

-- a consumer is the session's of that number
abbrev pub of_number : SessionId → ℕ → SessionId → ℕ → Bool
of_number s c t d = session_eq t s && (d == c)

-- a consumer is among those that are meant
abbrev pub are_meant : Consumers → SessionId → ℕ → Bool
are_meant (OfConnection c) = of_connection c
are_meant (OfSession s) = of_session s
are_meant (One s c) = of_number s c

-- the rows that are out through consumers that pass are settled: they go
abbrev pub settled_rows : (SessionId → ℕ → Bool) → List PlacedRow → List PlacedRow
settled_rows p rows = filter (λ x. not (is_out p x.row)) rows

-- a row that is out through such a consumer waits again, at its place and with its count
abbrev pub returned_row : (SessionId → ℕ → Bool) → PlacedRow → PlacedRow
returned_row p x = record { place = x.place; row = given_back p x.row }

-- the rows, of which those wait again
abbrev pub returned_rows : (SessionId → ℕ → Bool) → List PlacedRow → List PlacedRow
returned_rows p rows = map (returned_row p) rows

-- they are settled in all subscriptions and queues
abbrev pub settled : (SessionId → ℕ → Bool) → State → State
settled p state = record state {
  stations = map (with_rows (settled_rows p)) state.stations;
  queues = at_queues (settled_rows p) state.queues;
}

-- they wait again in all subscriptions and queues
abbrev pub returned : (SessionId → ℕ → Bool) → State → State
returned p state = record state {
  stations = map (with_rows (returned_rows p)) state.stations;
  queues = at_queues (returned_rows p) state.queues;
}

-- a consumer as it closes: it is known by its number, its key and its marks, and has no selector; one that was closed stays
-- as it is
abbrev pub shut : Consumer → Consumer
shut x = record x { is_active = false; selector = if x.is_active then None else x.selector }

-- a consumer, closed where it passes
abbrev pub closed_consumer : (SessionId → ℕ → Bool) → Consumer → Consumer
closed_consumer p x = if p x.session x.id then shut x else x

-- a consumer of the key is among those that pass
abbrev pub is_one_of : (SessionId → ℕ → Bool) → List Consumer → Key → Bool
is_one_of p consumers key = list_any (λ x. key_eq x.key key && p x.session x.id) consumers

-- a consumer of the key is active, and is not among those that pass
abbrev pub is_left : (SessionId → ℕ → Bool) → List Consumer → Key → Bool
is_left p consumers key = list_any (λ x. key_eq x.key key && (x.is_active && not (p x.session x.id))) consumers

-- the subscription of the key ends as consumers that pass close: a consumer's own ends with it, and a shared one that is
-- not durable with its last active one
abbrev pub ends : (SessionId → ℕ → Bool) → List Consumer → Key → Bool
ends p consumers (OfQueue name) = false
ends p consumers (Own s c) = is_one_of p consumers (Own s c)
ends p consumers (SharedOwn client name) = not (is_left p consumers (SharedOwn client name))
ends p consumers (Durable client name) = false

-- the consumers that pass close; what is out through them stays out to their sessions, where no subscription ends
abbrev pub closed : (SessionId → ℕ → Bool) → State → State
closed p state = record state {
  consumers = map (closed_consumer p) state.consumers;
  stations = filter (λ x. not (ends p state.consumers x.key)) state.stations;
}

-- What is held of a key

-- what is held of a key: the definition, the missed publications and the rows of its subscription, and its consumers
pub record Holding : Type 0 where
  -- none where there is no subscription
  pub definition : Option Definition
  pub missed : ℕ
  pub rows : List Row
  pub consumers : List Consumer

-- what is held of no key
abbrev pub nothing_held : Holding
nothing_held = record { definition = None; missed = 0; rows = []; consumers = [] }

-- the rows under a key, without their places; of a queue those whose messages pass
abbrev pub rows_under : (Content → Bool) → Key → State → List Row
rows_under p (OfQueue name) state = chosen p (bare (state.queues name))
rows_under p (Own s c) state = rows_of (station_of (Own s c) state.stations)
rows_under p (SharedOwn client name) state = rows_of (station_of (SharedOwn client name) state.stations)
rows_under p (Durable client name) state = rows_of (station_of (Durable client name) state.stations)

-- what a state holds of a key, and of a queue for a consumer that selects so
abbrev pub holding_of : (Content → Bool) → Key → State → Holding
holding_of p key state = record {
  definition = definition_of (station_of key state.stations);
  missed = missed_of (station_of key state.stations);
  rows = rows_under p key state;
  consumers = filter (λ x. key_eq x.key key) state.consumers;
}

-- what a state holds of a key that may be absent
abbrev pub holding_at : (Content → Bool) → Option Key → State → Holding
holding_at p None state = nothing_held
holding_at p (Some key) state = holding_of p key state

-- the key that a request names, by its own words or by the number of its consumer; none where it names
-- none
abbrev pub key_named : Life → List Consumer → Who → Request → Option Key
key_named life consumers (Session s) (CreateConsumer c destination selector no_local) = Some (key_made s c destination)
key_named life consumers (Session s) (CreateDurable c destination name selector no_local) = Some (durable_of (client_of life) s name)
key_named life consumers (Session s) (CreateShared c destination name selector) = Some (shared_of (client_of life) s name)
key_named life consumers (Session s) (CreateSharedDurable c destination name selector) = Some (durable_of (client_of life) s name)
key_named life consumers (Session s) (Unsubscribe name) = Some (durable_of (client_of life) s name)
key_named life consumers (Session s) (Receive c now) = key_at (consumer_of consumers s c)
key_named life consumers (Session s) (Missed c) = key_at (consumer_of consumers s c)
key_named life consumers (Session s) (Take c now) = key_at (consumer_of consumers s c)
key_named life consumers _ _ = None

-- the consumer that a request names by its number; none where it names none
abbrev pub consumer_named : List Consumer → Who → Request → Option Consumer
consumer_named consumers (Session s) (Receive c now) = consumer_of consumers s c
consumer_named consumers (Session s) (Take c now) = consumer_of consumers s c
consumer_named consumers _ _ = None

-- what is held of the key that a request names
abbrev pub held : State → Who → Request → Holding
held state who request = holding_at (selected_by (consumer_named state.consumers who request)) (key_named state.life state.consumers who request) state

-- The checks of a call, in the order of the causes

-- a cause, where the check fails
abbrev pub unless : Bool → Refusal → Option Refusal
unless true r = None
unless false r = Some r

-- the first of two causes, where one stands
abbrev pub first_cause : Option Refusal → Option Refusal → Option Refusal
first_cause None later = later
first_cause (Some r) later = Some r

-- a consumer may be made: the session is open, and the number was not used in it
abbrev pub may_begin : Life → List Consumer → SessionId → ℕ → Bool
may_begin life consumers s c = is_some (mode_of life s) && not (is_some (consumer_of consumers s c))

-- a consumer of a topic is asked for
abbrev pub is_of_topic : Destination → Bool
is_of_topic (Queue name) = false
is_of_topic (Topic name) = true

-- the name of a destination
abbrev pub name_of : Destination → List ℕ
name_of (Queue name) = name
name_of (Topic name) = name

-- what a subscription of the destination asks for
abbrev pub asked : Destination → Option (List ℕ) → Bool → Bool → Definition
asked destination selector no_local shared = defined (name_of destination) selector no_local shared

-- no consumer of the key is active
abbrev pub is_idle : Holding → Bool
is_idle holding = not (list_any (λ x. x.is_active) holding.consumers)

-- no row of the key is out, to whichever session
abbrev pub is_home : Holding → Bool
is_home holding = not (list_any (λ r. is_out (λ s c. true) r) holding.rows)

-- no consumer of the key is active, and no row out
abbrev pub is_free : Holding → Bool
is_free holding = is_idle holding && is_home holding

-- an unshared durable subscription may be had: its name is that of no shared one, no consumer is active, and where it asks
-- for another thing no row is out
abbrev pub may_resume : Option Definition → Bool → Bool → Definition → Bool
may_resume held idle home d = is_same_kind held d && (idle && (is_same held d || home))

-- a shared durable subscription may be had: its name is that of no unshared one, and where it asks for another thing no
-- consumer is active and no row out
abbrev pub may_join : Option Definition → Bool → Bool → Definition → Bool
may_join held idle home d = is_same_kind held d && (is_same held d || (idle && home))

-- a shared subscription that is not durable may be had: there is none, or it asks for the same
abbrev pub may_share : Option Definition → Bool → Bool → Definition → Bool
may_share held idle home d = not (is_some held) || is_same held d

-- a session may be closed: it was opened, or its connection is closed; closing it again does nothing
abbrev pub may_close_session : Life → SessionId → Bool
may_close_session life s = is_some (session_of life.sessions s) || is_closed_connection (connection_of life.connections s.connection)

-- a consumer may be closed: it was made in the session, which is open, and it is not busy (ours), or the session is closed;
-- closing it again does nothing
abbrev pub may_close_consumer : Life → List Consumer → SessionId → ℕ → Bool
may_close_consumer life consumers s c =
    if is_some (mode_of life s) then is_some (consumer_of consumers s c) && not (is_busy (consumer_of consumers s c)) else is_some (session_of life.sessions s)

-- a session's consumer may be used: both are open
abbrev pub may_use : Life → List Consumer → SessionId → ℕ → Bool
may_use life consumers s c = is_some (mode_of life s) && is_active (consumer_of consumers s c)

-- a session's consumer may receive: it does not listen
abbrev pub may_receive : Life → List Consumer → SessionId → ℕ → Bool
may_receive life consumers s c = may_use life consumers s c && not (is_listening (consumer_of consumers s c))

-- its listener may be set, or taken away: it is not busy (ours)
abbrev pub may_set_listener : Life → List Consumer → SessionId → ℕ → Bool
may_set_listener life consumers s c = may_use life consumers s c && not (is_busy (consumer_of consumers s c))

-- its listener may take a message: it listens, and is not busy
abbrev pub may_take : Life → List Consumer → SessionId → ℕ → Bool
may_take life consumers s c = may_use life consumers s c && (is_listening (consumer_of consumers s c) && not (is_busy (consumer_of consumers s c)))

-- its listener may be done with a message: it is busy
abbrev pub may_be_done : Life → List Consumer → SessionId → ℕ → Bool
may_be_done life consumers s c = may_use life consumers s c && is_busy (consumer_of consumers s c)

-- a session that is open is transacted
abbrev pub is_transacted : Option Mode → Bool
is_transacted (Some Auto) = false
is_transacted (Some Client) = false
is_transacted (Some Dups) = false
is_transacted (Some Transacted) = true
is_transacted None = false

-- a session that is open is not transacted
abbrev pub is_untransacted : Option Mode → Bool
is_untransacted None = false
is_untransacted (Some mode) = not (is_transacted (Some mode))

-- why a subscription of the destination is refused, after the causes that are seen before
abbrev pub subscription_refusal : Destination → Option (List ℕ) → Bool → Option Refusal
subscription_refusal destination selector may = first_cause (unless (is_of_topic destination) InvalidDestination) (first_cause (selector_refusal selector) (unless may SubscriptionInUse))

-- why a request is refused, by the connections and sessions, the consumers, and what is held of the key
-- that it names; none where it is not
unfoldable pub refusal : Life → List Consumer → Holding → Who → Request → Option Refusal
refusal life consumers holding (Connection c) (Open client) = first_cause (unless (not (is_some (connection_of life.connections c))) IllegalState) (unless (not (is_client_taken life client)) InvalidClientId)
refusal life consumers holding (Connection c) Start = unless (is_open_connection (connection_of life.connections c)) IllegalState
refusal life consumers holding (Connection c) Stop = unless (is_open_connection (connection_of life.connections c)) IllegalState
refusal life consumers holding (Connection c) CloseConnection = unless (is_some (connection_of life.connections c)) IllegalState
refusal life consumers holding (Session s) (CreateSession mode) = unless (is_new_session life s) IllegalState
refusal life consumers holding (Session s) CloseSession = unless (may_close_session life s) IllegalState
refusal life consumers holding (Session s) (CreateConsumer c destination selector no_local) = first_cause (unless (may_begin life consumers s c) IllegalState) (selector_refusal selector)
refusal life consumers holding (Session s) (CreateDurable c destination name selector no_local) =
    first_cause (unless (may_begin life consumers s c && is_some (client_of life s.connection)) IllegalState) (subscription_refusal destination selector (may_resume holding.definition (is_idle holding) (is_home holding) (asked destination selector no_local false)))
refusal life consumers holding (Session s) (CreateShared c destination name selector) = first_cause (unless (may_begin life consumers s c) IllegalState) (subscription_refusal destination selector (may_share holding.definition (is_idle holding) (is_home holding) (asked destination selector false true)))
refusal life consumers holding (Session s) (CreateSharedDurable c destination name selector) = first_cause (unless (may_begin life consumers s c) IllegalState) (subscription_refusal destination selector (may_join holding.definition (is_idle holding) (is_home holding) (asked destination selector false true)))
refusal life consumers holding (Session s) (Unsubscribe name) =
    first_cause (unless (is_some (mode_of life s)) IllegalState) (first_cause (unless (is_some holding.definition) InvalidDestination) (unless (is_free holding) SubscriptionInUse))
refusal life consumers holding (Session s) (CloseConsumer c) = unless (may_close_consumer life consumers s c) IllegalState
refusal life consumers holding (Session s) (Receive c now) = unless (may_receive life consumers s c) IllegalState
refusal life consumers holding (Session s) Acknowledge = unless (is_some (mode_of life s)) IllegalState
refusal life consumers holding (Session s) Recover = unless (is_untransacted (mode_of life s)) IllegalState
refusal life consumers holding (Session s) Rollback = unless (is_transacted (mode_of life s)) IllegalState
refusal life consumers holding (Session s) (Missed c) = unless (may_use life consumers s c) IllegalState
refusal life consumers holding (Session s) (SetListener c on) = unless (may_set_listener life consumers s c) IllegalState
refusal life consumers holding (Session s) (Take c now) = unless (may_take life consumers s c) IllegalState
refusal life consumers holding (Session s) (DoneWith c ok) = unless (may_be_done life consumers s c) IllegalState
refusal life consumers holding _ _ = Some IllegalState

-- each message was stamped by this session in this opening
abbrev pub is_stamped : ℕ → SessionId → List Content → Bool
is_stamped opening s messages = list_all (λ m. (m.sender.opening == opening) && session_eq m.sender.session s) messages

-- the first number that is no place: places run from 1 to 2^63-1 (ours)
abbrev pub places_end : ℕ
places_end = long_end

-- places are left for so many messages
abbrev pub has_places : ℕ → List Content → Bool
has_places place messages = nat_le (place + length messages) places_end

-- why a publication is refused; none where it is not
unfoldable pub publish_refusal : State → Who → List Content → Option Refusal
publish_refusal state (Connection c) messages = Some IllegalState
publish_refusal state (Session s) messages =
    if is_untransacted (mode_of state.life s) && is_stamped state.opening s messages
    then unless (has_places state.next_place messages) Exhausted
    else Some IllegalState

-- why a commit is refused; none where it is not
unfoldable pub commit_refusal : State → Who → List Content → Option Refusal
commit_refusal state (Connection c) messages = Some IllegalState
commit_refusal state (Session s) messages =
    if is_transacted (mode_of state.life s) && is_stamped state.opening s messages
    then unless (has_places state.next_place messages) Exhausted
    else Some IllegalState

-- What a call does that is not refused

-- a consumer of a key receives: rows that have lapsed go, and the next one is delivered, of a queue the next whose message
-- passes
abbrev pub receive : (Content → Bool) → (Row → List Row) → ℕ → Option Key → State → State
receive p f now None state = state
receive p f now (Some key) state = record state {
  stations = at_key key (with_rows (deliver_placed now f)) state.stations;
  queues = at_queue_of key (deliver_chosen p now f) state.queues;
}

-- a delivery comes at that moment
abbrev pub is_coming : ℕ → List Row → Bool
is_coming now rows = is_some (next now (live now rows))

-- the listener of a key's consumer takes a message: as the consumer would receive, but what is delivered is out in every
-- mode, and where one comes the consumer is busy
abbrev pub take : (Content → Bool) → SessionId → ℕ → ℕ → Option Key → State → State
take p s c now key state = record (receive p (taken s c) now key state) { consumers = set_busy s c (is_coming now (holding_at p key state).rows) state.consumers }

-- a message is settled or given back: what is out through that consumer goes, or waits again
abbrev pub done_rows : SessionId → ℕ → Bool → List PlacedRow → List PlacedRow
done_rows s c ok rows = if ok then settled_rows (of_number s c) rows else returned_rows (of_number s c) rows

-- so it is with what is held under the consumer's key
abbrev pub with_done : SessionId → ℕ → Bool → Option Key → State → State
with_done s c ok None state = state
with_done s c ok (Some key) state = record state {
  stations = at_key key (with_rows (done_rows s c ok)) state.stations;
  queues = at_queue_of key (done_rows s c ok) state.queues;
}

-- the listener of a key's consumer is done with its message, in that mode: the consumer is not busy any more, and where
-- the mode settles a message as it is delivered, it is settled now, or given back. What a recovery gave back is not out
-- through the consumer, whoever has it
abbrev pub done : SessionId → ℕ → Bool → Option Mode → Option Key → State → State
done s c ok mode key state =
    let free = record state { consumers = set_busy s c false state.consumers } in
    if settles_at_once mode then with_done s c ok key free else free

-- the connections and sessions after a request
abbrev pub with_life : Who → Request → State → State
with_life who request state = record state { life = life_after state.life who request }

-- the mode lets the client acknowledge
abbrev pub is_client : Option Mode → Bool
is_client (Some Auto) = false
is_client (Some Client) = true
is_client (Some Dups) = false
is_client (Some Transacted) = false
is_client None = false

-- the state after a request that is not refused
unfoldable pub after : State → Who → Request → State
after state (Connection c) CloseConnection = closed (of_connection c) (returned (of_connection c) (with_life (Connection c) CloseConnection state))
after state (Connection c) request = with_life (Connection c) request state
after state (Session s) (CreateSession mode) = with_life (Session s) (CreateSession mode) state
after state (Session s) CloseSession = closed (of_session s) (returned (of_session s) (with_life (Session s) CloseSession state))
after state (Session s) (CreateConsumer c destination selector no_local) = made s c destination selector no_local state
after state (Session s) (CreateDurable c destination name selector no_local) = subscribed s c (durable_of (client_of state.life) s name) (asked destination selector no_local false) state
after state (Session s) (CreateShared c destination name selector) = subscribed s c (shared_of (client_of state.life) s name) (asked destination selector false true) state
after state (Session s) (CreateSharedDurable c destination name selector) = subscribed s c (durable_of (client_of state.life) s name) (asked destination selector false true) state
after state (Session s) (Unsubscribe name) = deleted (durable_of (client_of state.life) s name) state
after state (Session s) (Receive c now) =
    if is_started state.life s.connection
    then receive (selected_by (consumer_of state.consumers s c)) (left_of (mode_of state.life s) s c) now (key_at (consumer_of state.consumers s c)) state
    else state
after state (Session s) (CloseConsumer c) = closed (of_number s c) state
after state (Session s) Acknowledge = if is_client (mode_of state.life s) then settled (of_session s) state else state
after state (Session s) Recover = returned (of_session s) state
after state (Session s) Rollback = returned (of_session s) state
after state (Session s) (SetListener c on) = record state { consumers = set_listening s c on state.consumers }
after state (Session s) (Take c now) =
    if is_started state.life s.connection
    then take (selected_by (consumer_of state.consumers s c)) s c now (key_at (consumer_of state.consumers s c)) state
    else state
after state (Session s) (DoneWith c ok) = done s c ok (mode_of state.life s) (key_at (consumer_of state.consumers s c)) state
after state (Session s) _ = state

-- the state after a commit that is not refused: all that is out to the session is settled, and then the messages are
-- published, in order
unfoldable pub after_commit : State → Who → List Content → State
after_commit state (Connection c) messages = state
after_commit state (Session s) messages = published (settled (of_session s) state) messages

-- what is handed out of a row: the message as it was published, read-only, with its count
abbrev pub delivery : Option Row → Answer
delivery None = Nothing
delivery (Some r) = Delivered (record { message = protected r.message; count = raised r.count })

-- the answer to a receive, or to a take: on a stopped connection there is nothing
abbrev pub delivered : Bool → ℕ → List Row → Answer
delivered started now rows = if started then delivery (next now (live now rows)) else Nothing

-- the answer to a request that is not refused, by the same
unfoldable pub answer : Life → List Consumer → Holding → Who → Request → Answer
answer life consumers holding (Session s) (Receive c now) = delivered (is_started life s.connection) now holding.rows
answer life consumers holding (Session s) (Missed c) = MissedSoFar holding.missed
answer life consumers holding (Session s) (Take c now) = delivered (is_started life s.connection) now holding.rows
answer life consumers holding _ _ = Done

-- an answer, or a refusal
abbrev pub replied : Option Refusal → Answer → Result Answer Refusal
replied None a = Ok a
replied (Some r) a = Err r

-- a state, or where a call is refused the one before
abbrev pub moved : Option Refusal → State → State → State
moved None new old = new
moved (Some r) new old = old

-- the reply to a request, by the same
abbrev pub reply_by : Life → List Consumer → Holding → Who → Request → Result Answer Refusal
reply_by life consumers holding who request = replied (refusal life consumers holding who request) (answer life consumers holding who request)

-- the reply to a call
unfoldable pub reply : State → Who → Call → Result Answer Refusal
reply state who (Ask request) = reply_by state.life state.consumers (held state who request) who request
reply state who (Publish messages) = replied (publish_refusal state who messages) Done
reply state who (Commit messages) = replied (commit_refusal state who messages) Done

-- the state after a call
unfoldable pub step : State → Who → Call → State
step state who (Ask request) = moved (refusal state.life state.consumers (held state who request) who request) (after state who request) state
step state who (Publish messages) = moved (publish_refusal state who messages) (published state messages) state
step state who (Commit messages) = moved (commit_refusal state who messages) (after_commit state who messages) state
