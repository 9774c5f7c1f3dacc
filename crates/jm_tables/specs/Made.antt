-- The texts that make the tables, in the order in which they are made.
use Rattle.std.specs.Prelude.{ℕ, List, codes}

-- the version of the schema, and the number of the last opening
abbrev pub meta_text : List ℕ
meta_text = codes "CREATE TABLE meta (id INTEGER PRIMARY KEY CHECK (id = 1), version INTEGER NOT NULL, opening INTEGER NOT NULL) STRICT"

-- queues and durable subscriptions
abbrev pub station_text : List ℕ
station_text = codes "CREATE TABLE station (family INTEGER NOT NULL, client TEXT NOT NULL, name TEXT NOT NULL, shared INTEGER NOT NULL, topic TEXT NOT NULL, selector TEXT NOT NULL, no_local INTEGER NOT NULL, PRIMARY KEY (family, client, name)) STRICT"

-- messages, by place
abbrev pub message_text : List ℕ
message_text = codes "CREATE TABLE message (place INTEGER PRIMARY KEY, record BLOB NOT NULL) STRICT"

-- which queues and durable subscriptions hold a message, and how often it was delivered there
abbrev pub held_text : List ℕ
held_text = codes "CREATE TABLE held (family INTEGER NOT NULL, client TEXT NOT NULL, name TEXT NOT NULL, place INTEGER NOT NULL REFERENCES message(place), deliveries INTEGER NOT NULL CHECK (deliveries >= 0), PRIMARY KEY (family, client, name, place), FOREIGN KEY (family, client, name) REFERENCES station(family, client, name)) STRICT"

-- rows by the place of their message, so that a message goes without a look at each row
abbrev pub held_by_place_text : List ℕ
held_by_place_text = codes "CREATE INDEX held_by_place ON held (place)"

-- the moments at which delayed messages become due
abbrev pub delayed_text : List ℕ
delayed_text = codes "CREATE TABLE delayed (place INTEGER PRIMARY KEY REFERENCES message(place), due INTEGER NOT NULL CHECK (due > 0)) STRICT"
