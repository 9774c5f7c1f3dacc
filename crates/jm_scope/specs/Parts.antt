-- What belongs to a key, by the parts of an opening and a list of entries that it is found from.
use Rattle.std.specs.Prelude.{ℕ, Bool, true, false, ◌&&◌, ◌==◌, List, [], ◌∷◌, ◌++◌, Option, Some, None, is_ok, unwrap_or, if◌then◌else◌}
use Rattle.std.specs.declared.hash.FoldHasher.{FoldHasher}
use Rattle.std.specs.declared.hash.BuildHasherDefault.{BuildHasherDefault}
use Rattle.std.specs.HashMap.{get, HashMap}
use Rattle.jm_dest.specs.declared.session.SessionId.{SessionId}
use Rattle.jm_dest.specs.declared.destination.Destination.TheVariants.{Topic}
use Rattle.jm_dest.specs.declared.key.Key.{Key}
use Rattle.jm_dest.specs.declared.key.Key.TheVariants.{Own, SharedOwn, Durable, Queue as OfQueue}
use Rattle.jm_dest.specs.Names.{session_eq}
use Rattle.jm_dest.specs.Keys.{key_eq}
use Rattle.jm_machine.specs.declared.call.Who.TheVariants.{Connection, Session}
use Rattle.jm_machine.specs.declared.call.Request.{Request}
use Rattle.jm_machine.specs.declared.call.Request.TheVariants.{Open, CreateConsumer}
use Rattle.jm_machine.specs.declared.entry.Entry.{Entry}
use Rattle.jm_machine.specs.declared.entry.Entry.TheVariants.{Asked}
use Rattle.jm_machine.specs.declared.state.ConnectionState.{ConnectionState}
use Rattle.jm_machine.specs.declared.state.Consumer.{Consumer}
use Rattle.jm_machine.specs.declared.state.Row.{Row}
use Rattle.jm_machine.specs.Life.{connection_of}
use Rattle.jm_machine.specs.Lone.{Scope, client_opened, client_or, consuming, holding_rows, asks_for, askers, named_by, first_named, own_clients}
use Rattle.jm_machine.specs.Machine.{consumer_of}
use Rattle.jm_machine.specs.Owns.{is_own}

-- the client identifier that a map has for a connection, where it has one
abbrev pub client_seen : HashMap ℕ (Option (List ℕ)) (BuildHasherDefault FoldHasher) → ℕ → Option (List ℕ)
client_seen clients c = unwrap_or (get (λ a b. a == b) clients c) None

-- the client identifier of a connection of the opening, where it is open and has one
abbrev pub client_left : ConnectionState → Option (List ℕ)
client_left x = if x.is_open then x.client else None

-- the entry opens the connection of that number
abbrev pub opens : ℕ → Entry → Bool
opens c (Asked (Connection d) (Open client) told) = (d == c) && is_ok told
opens c _ = false

-- the client identifier, if any, for which an entry opens a connection
abbrev pub client_named : Entry → Option (List ℕ)
client_named (Asked (Connection d) (Open client) told) = client
client_named _ = None

-- the client identifier with which a connection is open in the opening, or is opened by the entries
abbrev pub clients_when : List ConnectionState → List Entry → ℕ → Option (List ℕ)
clients_when connections entries c = client_or (connection_of connections c) (client_opened entries c)

-- those by which the entries name a key: of a durable one those of all connections; of another key none matters
abbrev pub clients_for : Key → List ConnectionState → List Entry → ℕ → Option (List ℕ)
clients_for (OfQueue name) connections entries c = None
clients_for (Own s d) connections entries c = None
clients_for (SharedOwn client name) connections entries c = None
clients_for (Durable client name) connections entries c = clients_when connections entries c

-- the session that asks by an entry for the unshared durable subscription of the key, or to delete it
abbrev pub asker : Key → (ℕ → Option (List ℕ)) → Entry → Option SessionId
asker key clients (Asked (Session s) request told) = if asks_for key clients s request then Some s else None
asker key clients _ = None

-- the own sessions of a key, by its consumers, its rows and the entries
abbrev pub sessions_for : Key → (ℕ → Option (List ℕ)) → List Consumer → List Row → List Entry → List SessionId
sessions_for (OfQueue name) clients consumers rows entries = []
sessions_for (Own s c) clients consumers rows entries = s ∷ []
sessions_for (SharedOwn client name) clients consumers rows entries = []
sessions_for (Durable client name) clients consumers rows entries =
    consuming (Durable client name) consumers ++ (holding_rows rows ++ askers (Durable client name) clients entries)

-- the number may be one of the key: of a consumer's own key that consumer's alone, of a durable one any
abbrev pub may_be : Key → SessionId → ℕ → Bool
may_be (OfQueue name) s c = false
may_be (Own t d) s c = session_eq s t && (c == d)
may_be (SharedOwn client name) s c = false
may_be (Durable client name) s c = true

-- the consumer is one of the key
abbrev pub is_of : Key → Consumer → Bool
is_of key x = key_eq x.key key

-- the number may be one of the key, and was made for it
abbrev pub made_for : Key → (ℕ → Option (List ℕ)) → List Consumer → List Entry → SessionId → ℕ → Bool
made_for key clients consumers entries s c = may_be key s c && named_by key (consumer_of consumers s c) (first_named key clients entries s c)

-- what belongs to a key, by its own sessions, the clients of connections, and the numbers that were made for it
abbrev pub belonging : Key → List SessionId → (ℕ → Option (List ℕ)) → (SessionId → ℕ → Bool) → Scope
belonging key sessions clients made = record {
  key = key;
  sessions = sessions;
  clients = own_clients sessions clients;
  numbers = λ s c. is_own sessions s && made s c;
}

-- the request creates a consumer of a topic with a subscription of its own
abbrev pub is_of_topic : Request → Bool
is_of_topic (CreateConsumer c (Topic name) selector no_local) = true
is_of_topic _ = false

-- no connection has a client identifier
abbrev pub no_client : ℕ → Option (List ℕ)
no_client c = None
