-- The names of fields and operations (ours).
use Rattle.std.specs.Prelude.{ℕ, ◌&&◌, ◌||◌, not, Bool, true, List, Option, Some, None, if◌then◌else◌, codes}
use Rattle.std.specs.Option.{option_map_or}
use Rattle.std.specs.Str.{bytes_eq}
use Rattle.serde_json.specs.Data.{Data, Members, no_members, member}
use Rattle.serde_json.specs.Find.{as_object}
use Rattle.jm_fields.specs.declared.field.Field.{Field}
use Rattle.jm_fields.specs.declared.field.Field.TheVariants as field
use Rattle.jm_fields.specs.declared.field.FieldName.{FieldName}
use Rattle.jm_fields.specs.declared.field.FieldName.TheVariants.{Known, Unknown}
use Rattle.jm_fields.specs.declared.field.Owner.{Owner}
use Rattle.jm_fields.specs.declared.field.Owner.TheVariants.{Scenario, Open, Start, Stop, CloseConnection, Session, CloseSession, Acknowledge, Recover, Commit, Rollback, Consumer, Durable, Shared, SharedDurable, CloseConsumer, Missed, Unsubscribe, Listener, Send, Receive, Take, Done, ForkOrJoin}

-- the name of a field
abbrev pub field_name : Field → List ℕ
field_name field.Calls = codes "calls"
field_name field.Held = codes "held"
field_name field.Operation = codes "op"
field_name field.Connection = codes "c"
field_name field.Client = codes "client"
field_name field.Session = codes "s"
field_name field.Mode = codes "mode"
field_name field.Consumer = codes "k"
field_name field.Queue = codes "queue"
field_name field.Topic = codes "topic"
field_name field.Name = codes "name"
field_name field.Selector = codes "selector"
field_name field.NoLocal = codes "noLocal"
field_name field.Listening = codes "on"
field_name field.Now = codes "now"
field_name field.Settled = codes "ok"
field_name field.Priority = codes "priority"
field_name field.Persistent = codes "persistent"
field_name field.TimeToLive = codes "ttl"
field_name field.DeliveryDelay = codes "delay"
field_name field.Correlation = codes "correlation"
field_name field.Type = codes "type"
field_name field.Properties = codes "props"
field_name field.Text = codes "text"
field_name field.Bytes = codes "bytes"

-- the name of a field as a fault tells it
abbrev pub told_name : FieldName → List ℕ
told_name (Known field) = field_name field
told_name (Unknown name) = name

-- the operation of that name
abbrev pub operation_named : List ℕ → Option Owner
operation_named text =
    if bytes_eq text (codes "open") then Some Open else
    (if bytes_eq text (codes "start") then Some Start else
    (if bytes_eq text (codes "stop") then Some Stop else
    (if bytes_eq text (codes "close-connection") then Some CloseConnection else
    (if bytes_eq text (codes "session") then Some Session else
    (if bytes_eq text (codes "close-session") then Some CloseSession else
    (if bytes_eq text (codes "acknowledge") then Some Acknowledge else
    (if bytes_eq text (codes "recover") then Some Recover else
    (if bytes_eq text (codes "commit") then Some Commit else
    (if bytes_eq text (codes "rollback") then Some Rollback else
    (if bytes_eq text (codes "consumer") then Some Consumer else
    (if bytes_eq text (codes "durable") then Some Durable else
    (if bytes_eq text (codes "shared") then Some Shared else
    (if bytes_eq text (codes "shared-durable") then Some SharedDurable else
    (if bytes_eq text (codes "close-consumer") then Some CloseConsumer else
    (if bytes_eq text (codes "missed") then Some Missed else
    (if bytes_eq text (codes "unsubscribe") then Some Unsubscribe else
    (if bytes_eq text (codes "listener") then Some Listener else
    (if bytes_eq text (codes "send") then Some Send else
    (if bytes_eq text (codes "receive") then Some Receive else
    (if bytes_eq text (codes "take") then Some Take else
    (if bytes_eq text (codes "done") then Some Done else None)))))))))))))))))))))

-- the name of a field of a draft
abbrev pub is_draft_field : List ℕ → Bool
is_draft_field name =
    bytes_eq name (codes "priority") || bytes_eq name (codes "persistent") || bytes_eq name (codes "ttl") || bytes_eq name (codes "delay")
    || bytes_eq name (codes "correlation") || bytes_eq name (codes "type") || bytes_eq name (codes "props") || bytes_eq name (codes "text") || bytes_eq name (codes "bytes")

-- a scenario or a call has a field of that name
abbrev pub has : Owner → List ℕ → Bool
has Scenario name = bytes_eq name (codes "calls") || bytes_eq name (codes "held")
has Open name = bytes_eq name (codes "op") || bytes_eq name (codes "c") || bytes_eq name (codes "client")
has Start name = bytes_eq name (codes "op") || bytes_eq name (codes "c")
has Stop name = bytes_eq name (codes "op") || bytes_eq name (codes "c")
has CloseConnection name = bytes_eq name (codes "op") || bytes_eq name (codes "c")
has Session name = bytes_eq name (codes "op") || bytes_eq name (codes "s") || bytes_eq name (codes "mode")
has CloseSession name = bytes_eq name (codes "op") || bytes_eq name (codes "s")
has Acknowledge name = bytes_eq name (codes "op") || bytes_eq name (codes "s")
has Recover name = bytes_eq name (codes "op") || bytes_eq name (codes "s")
has Commit name = bytes_eq name (codes "op") || bytes_eq name (codes "s")
has Rollback name = bytes_eq name (codes "op") || bytes_eq name (codes "s")
has Consumer name = bytes_eq name (codes "op") || bytes_eq name (codes "s") || bytes_eq name (codes "k") || bytes_eq name (codes "queue")
    || bytes_eq name (codes "topic") || bytes_eq name (codes "selector") || bytes_eq name (codes "noLocal")
has Durable name = bytes_eq name (codes "op") || bytes_eq name (codes "s") || bytes_eq name (codes "k") || bytes_eq name (codes "queue")
    || bytes_eq name (codes "topic") || bytes_eq name (codes "name") || bytes_eq name (codes "selector") || bytes_eq name (codes "noLocal")
has Shared name = bytes_eq name (codes "op") || bytes_eq name (codes "s") || bytes_eq name (codes "k") || bytes_eq name (codes "queue")
    || bytes_eq name (codes "topic") || bytes_eq name (codes "name") || bytes_eq name (codes "selector")
has SharedDurable name = bytes_eq name (codes "op") || bytes_eq name (codes "s") || bytes_eq name (codes "k") || bytes_eq name (codes "queue")
    || bytes_eq name (codes "topic") || bytes_eq name (codes "name") || bytes_eq name (codes "selector")
has CloseConsumer name = bytes_eq name (codes "op") || bytes_eq name (codes "s") || bytes_eq name (codes "k")
has Missed name = bytes_eq name (codes "op") || bytes_eq name (codes "s") || bytes_eq name (codes "k")
has Unsubscribe name = bytes_eq name (codes "op") || bytes_eq name (codes "s") || bytes_eq name (codes "name")
has Listener name = bytes_eq name (codes "op") || bytes_eq name (codes "s") || bytes_eq name (codes "k") || bytes_eq name (codes "on")
has Send name = bytes_eq name (codes "op") || bytes_eq name (codes "s") || bytes_eq name (codes "queue") || bytes_eq name (codes "topic")
    || bytes_eq name (codes "now") || is_draft_field name
has Receive name = bytes_eq name (codes "op") || bytes_eq name (codes "s") || bytes_eq name (codes "k") || bytes_eq name (codes "now")
has Take name = bytes_eq name (codes "op") || bytes_eq name (codes "s") || bytes_eq name (codes "k") || bytes_eq name (codes "now")
has Done name = bytes_eq name (codes "op") || bytes_eq name (codes "s") || bytes_eq name (codes "k") || bytes_eq name (codes "ok")
has ForkOrJoin name = bytes_eq name (codes "op")

-- a call of that operation has its place where a fork is open, or where none is: where one is open, those have that have a
-- field `s`
abbrev pub is_operation_in_place : Bool → Owner → Bool
is_operation_in_place is_forked owner = not is_forked || has owner (codes "s")

-- each member has a name that its owner has
abbrev pub has_each : Owner → Members → Bool
has_each owner no_members = true
has_each owner (member name value members) = has owner name && has_each owner members

-- the value has no other fields than its owner has
abbrev pub is_known : Owner → Data → Bool
is_known owner value = option_map_or (has_each owner) (as_object value) true
