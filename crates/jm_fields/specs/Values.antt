-- What the value of a field spells (ours).
use Rattle.std.specs.Prelude.{ℕ, ◌^◌, ◌&&◌, nat_le, nat_lt, pos, negsuc, ℤ, Bool, false, List, Option, Some, None, option_map, option_and_then, if◌then◌else◌, codes}
use Rattle.std.specs.Str.{bytes_eq}
use Rattle.serde_json.specs.Data.{Data, Items, no_items, item}
use Rattle.serde_json.specs.Find.{get, as_bool, as_number, as_u64, as_i64, as_str, as_array}
use Rattle.jm_base.specs.declared.mode.Mode.{Mode}
use Rattle.jm_base.specs.declared.mode.Mode.TheVariants.{Auto, Client, Dups, Transacted}
use Rattle.jm_dest.specs.Names.{is_name}
use Rattle.jm_dest.specs.declared.destination.Destination.{Destination}
use Rattle.jm_dest.specs.declared.destination.Destination.TheVariants.{Queue, Topic}
use Rattle.jm_dest.specs.declared.session.SessionId.{SessionId}
use Rattle.jm_fields.specs.Reading.{where_true}

-- a number of a connection, session or consumer: 1 to 4,294,967,295
abbrev pub within : ℕ → Option ℕ
within n = where_true (nat_le 1 n && nat_lt n (2 ^ 32)) (Some n)

-- such a number
abbrev pub number : Data → Option ℕ
number value = option_and_then within (option_and_then as_u64 (as_number value))

-- a limit of held rows: 1 to 1,000,000
abbrev pub limit : Data → Option ℕ
limit value = option_and_then (λ n. where_true (nat_le 1 n && nat_le n 1000000) (Some n)) (option_and_then as_u64 (as_number value))

-- a session, of the numbers of its connection and of itself
abbrev pub session_of_numbers : Option ℕ → Option ℕ → Option SessionId
session_of_numbers (Some c) (Some n) = Some (record { connection = c; number = n })
session_of_numbers _ _ = None

-- an array of the two numbers of a session
abbrev pub session_of_items : Items → Option SessionId
session_of_items (item connection (item n no_items)) = session_of_numbers (number connection) (number n)
session_of_items _ = None

-- a session
abbrev pub session : Data → Option SessionId
session value = option_and_then session_of_items (as_array value)

-- a session's mode, by its name
abbrev pub mode_named : List ℕ → Option Mode
mode_named name =
    if bytes_eq name (codes "auto") then Some Auto else
    (if bytes_eq name (codes "client") then Some Client else
    (if bytes_eq name (codes "dups") then Some Dups else
    (if bytes_eq name (codes "transacted") then Some Transacted else None)))

-- a session's mode
abbrev pub mode : Data → Option Mode
mode value = option_and_then mode_named (as_str value)

-- a text that is a name
abbrev pub name : Data → Option (List ℕ)
name value = option_and_then (λ text. where_true (is_name text) (Some text)) (as_str value)

-- a whole number as a moment, and none where it is negative
abbrev pub moment_of : ℤ → Option ℕ
moment_of (pos n) = Some n
moment_of (negsuc n) = None

-- a moment: a whole number from 0 to 2^63-1
abbrev pub moment : Data → Option ℕ
moment value = option_and_then moment_of (option_and_then as_i64 (as_number value))

-- the field of that name that has to stand
abbrev pub required : {T : Type 0} → (Data → Option T) → List ℕ → Data → Option T
required spelled field record_value = option_and_then spelled (get field record_value)

-- a field that may be absent
abbrev pub absent_or : {T : Type 0} → (Data → Option T) → Option Data → Option (Option T)
absent_or spelled None = Some None
absent_or spelled (Some value) = option_map Some (spelled value)

-- the field of that name, which may be absent
abbrev pub optional : {T : Type 0} → (Data → Option T) → List ℕ → Data → Option (Option T)
optional spelled field record_value = absent_or spelled (get field record_value)

-- the destination of a queue's name or of a topic's, where one of them stands and not both
abbrev pub destination_of : Option Data → Option Data → Option Destination
destination_of None None = None
destination_of (Some queue) None = option_map Queue (name queue)
destination_of None (Some topic) = option_map Topic (name topic)
destination_of (Some queue) (Some topic) = None

-- the destination of the field `queue` or `topic`
abbrev pub destination : Data → Option Destination
destination value = destination_of (get (codes "queue") value) (get (codes "topic") value)

-- a truth value, or false where it is absent
abbrev pub mark_of : Option Data → Option Bool
mark_of None = Some false
mark_of (Some value) = as_bool value

-- the mark of the field `noLocal`
abbrev pub no_local : Data → Option Bool
no_local value = mark_of (get (codes "noLocal") value)
