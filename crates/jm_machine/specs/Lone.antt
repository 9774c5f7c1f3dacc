-- One subscription alone: what it starts with, what it is fed, and what it answers.
use Rattle.std.specs.Prelude.{ℕ, ◌+◌, Bool, true, false, ◌&&◌, not, ◌==◌, List, [], ◌∷◌, ◌++◌, filter, map, length, Option, Some, None, is_none, is_ok, Result, if◌then◌else◌}
use Rattle.jm_base.specs.declared.refusal.Refusal.{Refusal}
use Rattle.jm_dest.specs.declared.session.SessionId.{SessionId}
use Rattle.jm_dest.specs.declared.key.Key.{Key}
use Rattle.jm_dest.specs.declared.key.Key.TheVariants.{Own, SharedOwn, Durable, Queue as OfQueue}
use Rattle.jm_dest.specs.declared.destination.Destination.{Destination}
use Rattle.jm_dest.specs.declared.destination.Destination.TheVariants.{Queue, Topic}
use Rattle.jm_dest.specs.Names.{session_eq}
use Rattle.jm_dest.specs.Keys.{key_eq}
use Rattle.jm_header.specs.declared.content.Content.{Content}
use Rattle.jm_machine.specs.declared.call.Who.{Who}
use Rattle.jm_machine.specs.declared.call.Who.TheVariants.{Connection, Session}
use Rattle.jm_machine.specs.declared.call.Request.{Request}
use Rattle.jm_machine.specs.declared.call.Request.TheVariants.{Open, CloseConnection, CreateSession, CloseSession, CreateConsumer, CreateDurable, CreateShared, CreateSharedDurable, Unsubscribe, CloseConsumer, Receive, Acknowledge, Recover, Rollback, Missed, SetListener, Take, Done as DoneWith}
use Rattle.jm_machine.specs.declared.answer.Answer.{Answer}
use Rattle.jm_machine.specs.declared.entry.Entry.{Entry}
use Rattle.jm_machine.specs.declared.entry.Entry.TheVariants.{Asked, Sent, Committed}
use Rattle.jm_machine.specs.declared.state.Row.{Row}
use Rattle.jm_machine.specs.declared.state.RowState.{RowState}
use Rattle.jm_machine.specs.declared.state.RowState.TheVariants.{Waiting, Out}
use Rattle.jm_machine.specs.declared.state.ConnectionState.{ConnectionState}
use Rattle.jm_machine.specs.declared.state.Consumer.{Consumer}
use Rattle.jm_machine.specs.declared.state.Definition.{Definition}
use Rattle.jm_machine.specs.Owns.{is_own, is_own_connection}
use Rattle.jm_machine.specs.Life.{Life, connection_of, mode_of, is_started, life_after, own_life}
use Rattle.jm_machine.specs.Rows.{fresh, left_of, taken, settles_at_once, is_out, given_back, deliver}
use Rattle.jm_machine.specs.Machine.{State, station_of, definition_of, missed_of, rows_of, Publisher, publisher_of, accepts, is_full, one_missed, consumer_of, durable_of, key_created, is_same, asked, new_consumer, defined, of_session, of_connection, of_number, closed_consumer, ends, set_listening, set_busy, is_coming, is_client, is_transacted, Holding, refusal, reply_by}
use Rattle.jm_machine.specs.Entries.{life_after_entry, committed}
use Rattle.jm_machine.specs.Under.{is_key}

-- what belongs to an unshared topic subscription: its key, its own sessions, the clients of their connections, and its
-- consumers' numbers
pub record Scope : Type 0 where
  pub key : Key
  pub sessions : List SessionId
  pub clients : ℕ → Option (List ℕ)
  pub numbers : SessionId → ℕ → Bool

-- the client with which a connection is opened in a list of entries
abbrev pub client_opened : List Entry → ℕ → Option (List ℕ)
client_opened [] c = None
client_opened (Asked (Connection d) (Open client) told ∷ entries) c = if (d == c) && is_ok told then client else client_opened entries c
client_opened (e ∷ entries) c = client_opened entries c

-- the client of a connection that was opened before, while it is open; else, where it was not, the one with which it is
-- opened later
abbrev pub client_or : Option ConnectionState → Option (List ℕ) → Option (List ℕ)
client_or None later = later
client_or (Some x) later = if x.is_open then x.client else None

-- the client for which the connection is ever open, in the opening or later: numbers are used once, so there is one
abbrev pub clients_in : State → List Entry → ℕ → Option (List ℕ)
clients_in opening entries c = client_or (connection_of opening.life.connections c) (client_opened entries c)

-- a session's creating request names the key by its own words, the connections having these clients
abbrev pub names_key : Key → (ℕ → Option (List ℕ)) → SessionId → Request → Bool
names_key key clients s request = is_key key (key_created clients s request)

-- a session's request to delete a durable subscription names the key
abbrev pub deletes_key : Key → (ℕ → Option (List ℕ)) → SessionId → List ℕ → Bool
deletes_key key clients s name = key_eq (durable_of clients s name) key

-- the request asks for the unshared durable subscription of the key, or to delete it
abbrev pub asks_for : Key → (ℕ → Option (List ℕ)) → SessionId → Request → Bool
asks_for key clients s (CreateDurable c destination name selector no_local) = names_key key clients s (CreateDurable c destination name selector no_local)
asks_for key clients s (Unsubscribe name) = deletes_key key clients s name
asks_for key clients s _ = false

-- the sessions that ask so
abbrev pub askers : Key → (ℕ → Option (List ℕ)) → List Entry → List SessionId
askers key clients [] = []
askers key clients (Asked (Session s) request told ∷ entries) = if asks_for key clients s request then s ∷ askers key clients entries else askers key clients entries
askers key clients (e ∷ entries) = askers key clients entries

-- the sessions of the key's consumers
abbrev pub consuming : Key → List Consumer → List SessionId
consuming key consumers = map (λ x. x.session) (filter (λ x. key_eq x.key key) consumers)

-- the session to which a row is out
abbrev pub out_to : RowState → List SessionId
out_to Waiting = []
out_to (Out s c) = s ∷ []

-- the sessions to which rows are out
abbrev pub holding_rows : List Row → List SessionId
holding_rows [] = []
holding_rows (r ∷ rows) = out_to r.state ++ holding_rows rows

-- the own sessions of a key: of a consumer's subscription the consumer's session; of a durable one those that in the
-- opening have a consumer or a row of it, and those that in the list ask for it
abbrev pub own_sessions : Key → State → List Entry → List SessionId
own_sessions (OfQueue name) opening entries = []
own_sessions (Own s c) opening entries = s ∷ []
own_sessions (SharedOwn client name) opening entries = []
own_sessions (Durable client name) opening entries =
    consuming (Durable client name) opening.consumers ++ (holding_rows (rows_of (station_of (Durable client name) opening.stations)) ++ askers (Durable client name) (clients_in opening entries) entries)

-- the clients of own connections
abbrev pub own_clients : List SessionId → (ℕ → Option (List ℕ)) → ℕ → Option (List ℕ)
own_clients sessions clients c = if is_own_connection sessions c then clients c else None

-- the clients by which a key is named: of a durable one those of own connections; of a consumer's own key none
abbrev pub clients_of : Key → State → List Entry → ℕ → Option (List ℕ)
clients_of (OfQueue name) opening entries c = None
clients_of (Own t d) opening entries c = None
clients_of (SharedOwn client name) opening entries c = None
clients_of (Durable client name) opening entries c = own_clients (own_sessions (Durable client name) opening entries) (clients_in opening entries) c

-- the number that a creating request gives to its consumer
abbrev pub number_made : Request → Option ℕ
number_made (CreateConsumer c destination selector no_local) = Some c
number_made (CreateDurable c destination name selector no_local) = Some c
number_made (CreateShared c destination name selector) = Some c
number_made (CreateSharedDurable c destination name selector) = Some c
number_made _ = None

-- a number that may be absent is there, and is that one
abbrev pub is_number : ℕ → Option ℕ → Bool
is_number c None = false
is_number c (Some d) = d == c

-- the entry is a creating call of the session that names the number
abbrev pub creates : SessionId → ℕ → Entry → Bool
creates s c (Asked (Session t) request told) = session_eq t s && is_number c (number_made request)
creates s c _ = false

-- the entry is a creating call that names the key
abbrev pub entry_names : Key → (ℕ → Option (List ℕ)) → Entry → Bool
entry_names key clients (Asked (Session s) request told) = names_key key clients s request
entry_names key clients _ = false

-- of the creating calls that name the number the first names the key; of none nothing is said
abbrev pub first_named : Key → (ℕ → Option (List ℕ)) → List Entry → SessionId → ℕ → Bool
first_named key clients [] s c = false
first_named key clients (e ∷ entries) s c = if creates s c e then entry_names key clients e else first_named key clients entries s c

-- the consumer of the opening, where there is one, else what is said of the entries, names the key
abbrev pub named_by : Key → Option Consumer → Bool → Bool
named_by key None later = later
named_by key (Some x) later = key_eq x.key key

-- the number was made for the key: by its consumer in the opening, else by the first creating call among
-- the entries that names it
abbrev pub is_made_for : Key → State → List Entry → SessionId → ℕ → Bool
is_made_for key opening entries s c = named_by key (consumer_of opening.consumers s c) (first_named key (clients_in opening entries) entries s c)

-- the consumers' numbers that belong to a key: those of own sessions that were made for it; of a consumer's own key that
-- consumer's alone
abbrev pub numbers_of : Key → State → List Entry → SessionId → ℕ → Bool
numbers_of (OfQueue name) opening entries s c = false
numbers_of (Own t d) opening entries s c = session_eq s t && (c == d) && is_made_for (Own t d) opening entries s c
numbers_of (SharedOwn client name) opening entries s c = false
numbers_of (Durable client name) opening entries s c = is_own (own_sessions (Durable client name) opening entries) s && is_made_for (Durable client name) opening entries s c

-- what belongs to the key, in an opening and a list of entries
abbrev pub scope_of : Key → State → List Entry → Scope
scope_of key opening entries = record {
  key = key;
  sessions = own_sessions key opening entries;
  clients = clients_of key opening entries;
  numbers = numbers_of key opening entries;
}

-- what one subscription holds: the limit of its rows, its own connections and sessions, its consumers, its
-- definition, how many publications it missed, and its rows
pub record Lone : Type 0 where
  pub limit : ℕ
  pub life : Life
  pub consumers : List Consumer
  pub definition : Option Definition
  pub missed : ℕ
  pub rows : List Row

-- what a state holds of the subscription
unfoldable pub lone_of : Scope → State → Lone
lone_of scope state = record {
  limit = state.limit;
  life = own_life scope.sessions state.life;
  consumers = filter (λ x. key_eq x.key scope.key) state.consumers;
  definition = definition_of (station_of scope.key state.stations);
  missed = missed_of (station_of scope.key state.stations);
  rows = rows_of (station_of scope.key state.stations);
}

-- what it is fed: a call, a commit of one of its own sessions, which settles, and a publication that comes to it
pub data Item : Type 0 where
  Called : (who : Who) → (request : Request) → Item
  Settled : (session : SessionId) → Item
  Came : (message : Content) → Item

-- an empty subscription in place of any other
abbrev pub lone_put : Definition → Lone → Lone
lone_put d lone = record lone { definition = Some d; missed = 0; rows = [] }

-- the subscription ends
abbrev pub lone_ended : Lone → Lone
lone_ended lone = record lone { definition = None; missed = 0; rows = [] }

-- rows that are out through consumers that pass are settled
abbrev pub lone_settled : (SessionId → ℕ → Bool) → Lone → Lone
lone_settled p lone = record lone { rows = filter (λ r. not (is_out p r)) lone.rows }

-- they wait again
abbrev pub lone_returned : (SessionId → ℕ → Bool) → Lone → Lone
lone_returned p lone = record lone { rows = map (given_back p) lone.rows }

-- its consumers that pass close, and it ends with them
abbrev pub lone_closed : Key → (SessionId → ℕ → Bool) → Lone → Lone
lone_closed key p lone =
    let left = record lone { consumers = map (closed_consumer p) lone.consumers } in
    if ends p lone.consumers key then lone_ended left else left

-- its connections and sessions after a request
abbrev pub lone_life : Who → Request → Lone → Lone
lone_life who request lone = record lone { life = life_after lone.life who request }

-- a consumer joins
abbrev pub lone_joined : SessionId → ℕ → Key → Lone → Lone
lone_joined s c key lone = record lone { consumers = lone.consumers ++ new_consumer s c key None ∷ [] }

-- a consumer of the topic is made, with a new subscription; one of a queue is no consumer of a subscription
abbrev pub lone_made : Key → SessionId → ℕ → Destination → Option (List ℕ) → Bool → Lone → Lone
lone_made key s c (Queue name) selector no_local lone = lone
lone_made key s c (Topic name) selector no_local lone = lone_joined s c key (lone_put (defined name selector no_local false) lone)

-- a consumer attaches to it where it asks for the same; else it is made anew
abbrev pub lone_subscribed : SessionId → ℕ → Key → Definition → Lone → Lone
lone_subscribed s c key d lone = lone_joined s c key (if is_same lone.definition d then lone else lone_put d lone)

-- a consumer receives
abbrev pub lone_receive : (Row → List Row) → ℕ → Lone → Lone
lone_receive f now lone = record lone { rows = deliver now f lone.rows }

-- a consumer's listener takes a message: it is out in every mode, and the consumer is busy where one comes
abbrev pub lone_take : SessionId → ℕ → ℕ → Lone → Lone
lone_take s c now lone = record (lone_receive (taken s c) now lone) { consumers = set_busy s c (is_coming now lone.rows) lone.consumers }

-- a consumer's listener is done with its message: the consumer is not busy any more, and where the mode settles a message as
-- it is delivered, what is still out through this consumer is settled now, or waits again
abbrev pub lone_done : SessionId → ℕ → Bool → Lone → Lone
lone_done s c ok lone =
    let free = record lone { consumers = set_busy s c false lone.consumers } in
    if settles_at_once (mode_of lone.life s) then (if ok then lone_settled (of_number s c) free else lone_returned (of_number s c) free) else free

-- what it holds after a request that is not refused
unfoldable pub lone_did : Key → Lone → Who → Request → Lone
lone_did key lone (Connection c) CloseConnection = lone_closed key (of_connection c) (lone_returned (of_connection c) (lone_life (Connection c) CloseConnection lone))
lone_did key lone (Connection c) request = lone_life (Connection c) request lone
lone_did key lone (Session s) (CreateSession mode) = lone_life (Session s) (CreateSession mode) lone
lone_did key lone (Session s) CloseSession = lone_closed key (of_session s) (lone_returned (of_session s) (lone_life (Session s) CloseSession lone))
lone_did key lone (Session s) (CreateConsumer c destination selector no_local) = lone_made key s c destination selector no_local lone
lone_did key lone (Session s) (CreateDurable c destination name selector no_local) = lone_subscribed s c key (asked destination selector no_local false) lone
lone_did key lone (Session s) (Unsubscribe name) = lone_ended lone
lone_did key lone (Session s) (Receive c now) = if is_started lone.life s.connection then lone_receive (left_of (mode_of lone.life s) s c) now lone else lone
lone_did key lone (Session s) (CloseConsumer c) = lone_closed key (of_number s c) lone
lone_did key lone (Session s) Acknowledge = if is_client (mode_of lone.life s) then lone_settled (of_session s) lone else lone
lone_did key lone (Session s) Recover = lone_returned (of_session s) lone
lone_did key lone (Session s) Rollback = lone_returned (of_session s) lone
lone_did key lone (Session s) (SetListener c on) = record lone { consumers = set_listening s c on lone.consumers }
lone_did key lone (Session s) (Take c now) = if is_started lone.life s.connection then lone_take s c now lone else lone
lone_did key lone (Session s) (DoneWith c ok) = lone_done s c ok lone
lone_did key lone (Session s) _ = lone

-- a consumer's number belongs to the key
abbrev pub belongs : Scope → SessionId → ℕ → Bool
belongs scope s c = is_own scope.sessions s && scope.numbers s c

-- what a session's request is about: the key, another key, or the whole session
pub data About : Type 0 where
  ThisKey : About
  OtherKey : About
  WholeSession : About

-- the key where that is so, else another
abbrev pub this_key_if : Bool → About
this_key_if b = if b then ThisKey else OtherKey

-- a request that creates a consumer, or deletes a subscription, is about the key that it names by its own words, and one
-- that names a consumer about that consumer's; any other request is about the whole session
abbrev pub about : Scope → SessionId → Request → About
about scope s (CreateConsumer c destination selector no_local) = this_key_if (is_own scope.sessions s && names_key scope.key scope.clients s (CreateConsumer c destination selector no_local))
about scope s (CreateDurable c destination name selector no_local) = this_key_if (is_own scope.sessions s && names_key scope.key scope.clients s (CreateDurable c destination name selector no_local))
about scope s (CreateShared c destination name selector) = this_key_if (is_own scope.sessions s && names_key scope.key scope.clients s (CreateShared c destination name selector))
about scope s (CreateSharedDurable c destination name selector) = this_key_if (is_own scope.sessions s && names_key scope.key scope.clients s (CreateSharedDurable c destination name selector))
about scope s (Unsubscribe name) = this_key_if (is_own scope.sessions s && deletes_key scope.key scope.clients s name)
about scope s (CloseConsumer c) = this_key_if (belongs scope s c)
about scope s (Receive c now) = this_key_if (belongs scope s c)
about scope s (Missed c) = this_key_if (belongs scope s c)
about scope s (SetListener c on) = this_key_if (belongs scope s c)
about scope s (Take c now) = this_key_if (belongs scope s c)
about scope s (DoneWith c ok) = this_key_if (belongs scope s c)
about scope s _ = WholeSession

-- it is about the key
abbrev pub is_this_key : About → Bool
is_this_key ThisKey = true
is_this_key OtherKey = false
is_this_key WholeSession = false

-- it is about another key
abbrev pub is_other_key : About → Bool
is_other_key ThisKey = false
is_other_key OtherKey = true
is_other_key WholeSession = false

-- the reply to a request is the subscription's: it creates or deletes it, or names one of its consumers
unfoldable pub is_answered : Scope → Who → Request → Bool
is_answered scope (Connection c) request = false
is_answered scope (Session s) request = is_this_key (about scope s request)

-- what it holds of its key, as the checks of a request see it
abbrev pub lone_holding : Lone → Holding
lone_holding lone = record { definition = lone.definition; missed = lone.missed; rows = lone.rows; consumers = lone.consumers }

-- why it refuses a request; none where it does not
abbrev pub lone_refusal : Lone → Who → Request → Option Refusal
lone_refusal lone who request = refusal lone.life lone.consumers (lone_holding lone) who request

-- its reply to a request
abbrev pub lone_reply : Lone → Who → Request → Result Answer Refusal
lone_reply lone who request = reply_by lone.life lone.consumers (lone_holding lone) who request

-- it takes up a request: of its connections' it is told the accepted ones alone, and of its sessions' it takes up those
-- that are not about another key, where it does not refuse them
abbrev pub takes_up : Scope → Lone → Who → Request → Bool
takes_up scope lone (Connection c) request = true
takes_up scope lone (Session s) request = not (is_other_key (about scope s request)) && is_none (lone_refusal lone (Session s) request)

-- a message comes to it; at its limit it misses it
abbrev pub lone_brought : Key → Content → Lone → Lone
lone_brought key m lone =
    if is_full lone.limit key (length lone.rows)
    then record lone { missed = one_missed lone.missed }
    else record lone { rows = lone.rows ++ fresh m ∷ [] }

-- what it holds after an item
abbrev pub lone_after : Scope → Lone → Item → Lone
lone_after scope lone (Called who request) = if takes_up scope lone who request then lone_did scope.key lone who request else lone
lone_after scope lone (Settled s) = if is_transacted (mode_of lone.life s) then lone_settled (of_session s) lone else lone
lone_after scope lone (Came m) = lone_brought scope.key m lone

-- what it holds after a list of items
abbrev pub lone_end : Scope → Lone → List Item → Lone
lone_end scope lone [] = lone
lone_end scope lone (i ∷ items) = lone_end scope (lone_after scope lone i) items

-- what it answers to an item, where that is a call that it answers
abbrev pub lone_told : Scope → Lone → Item → Option (Result Answer Refusal)
lone_told scope lone (Called who request) = if is_answered scope who request then Some (lone_reply lone who request) else None
lone_told scope lone (Settled s) = None
lone_told scope lone (Came m) = None

-- a reply beside its place, where there is one
abbrev pub placed : ℕ → Option (Result Answer Refusal) → List (ℕ × Result Answer Refusal)
placed place None = []
placed place (Some r) = (place, r) ∷ []

-- all that it answers to a list of items, each reply beside the place of its item
abbrev pub lone_replies : Scope → Lone → List (ℕ × Item) → List (ℕ × Result Answer Refusal)
lone_replies scope lone [] = []
lone_replies scope lone (x ∷ items) = placed x.0 (lone_told scope lone x.1) ++ lone_replies scope (lone_after scope lone x.1) items

-- the calls of its own sessions, and those of their connections that were accepted
abbrev pub is_own_call : Scope → Who → Result Answer Refusal → Bool
is_own_call scope (Connection c) told = is_own_connection scope.sessions c && is_ok told
is_own_call scope (Session s) told = is_own scope.sessions s

-- an entry's own call or commit, where it is one
abbrev pub own_items : Scope → Entry → List Item
own_items scope (Asked who request told) = if is_own_call scope who told then Called who request ∷ [] else []
own_items scope (Sent m) = []
own_items scope (Committed s) = if is_own scope.sessions s then Settled s ∷ [] else []

-- the subscription accepts a publication, where there is one
abbrev pub lone_accepts : Key → Option Definition → Publisher → Content → Bool
lone_accepts key None publisher m = false
lone_accepts key (Some d) publisher m = accepts key d publisher m

-- publications as items
abbrev pub came : List Content → List Item
came messages = map (λ m. Came m) messages

-- the messages that the subscription accepts, the connections being these
abbrev pub accepted : Key → Option Definition → Life → List Content → List Content
accepted key d life messages = filter (λ m. lone_accepts key d (publisher_of life m) m) messages

-- what an entry feeds to it, with the connections and sessions of all and the entries before, newest
-- first: its own call or commit, and the committed publications that it accepts
abbrev pub fed : Scope → Life → List Entry → Lone → Entry → List Item
fed scope life before lone e = own_items scope e ++ came (accepted scope.key lone.definition life (committed life before e))

-- items beside the place of their entry
abbrev pub at_place : ℕ → List Item → List (ℕ × Item)
at_place place items = map (λ i. (place, i)) items

-- what a list of entries feeds to it, the first entry being at that place: what is accepted goes by the
-- definition that the subscription then has
unfoldable pub feed : Scope → ℕ → Life → List Entry → Lone → List Entry → List (ℕ × Item)
feed scope place life before lone [] = []
feed scope place life before lone (e ∷ entries) =
    let items = fed scope life before lone e in
    at_place place items ++ feed scope (place + 1) (life_after_entry life e) (e ∷ before) (lone_end scope lone items) entries

-- the reply that an entry has, where it is a call that the subscription answers
abbrev pub told : Scope → Entry → Option (Result Answer Refusal)
told scope (Asked who request r) = if is_answered scope who request then Some r else None
told scope (Sent m) = None
told scope (Committed s) = None

-- the replies to its calls, as the entries have them, each beside its place, the first entry being at
-- that place
abbrev pub replies_in : Scope → ℕ → List Entry → List (ℕ × Result Answer Refusal)
replies_in scope place [] = []
replies_in scope place (e ∷ entries) = placed place (told scope e) ++ replies_in scope (place + 1) entries
