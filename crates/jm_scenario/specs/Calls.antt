-- The calls that a scenario spells, where it forks and joins, and its limit of held rows (ours).
use Rattle.std.specs.Prelude.{◌≡◌, ℕ, Bool, List, [], ◌∷◌, Option, Some, None, option_map, option_and_then, if◌then◌else◌, codes}
use Rattle.std.specs.Str.{bytes_eq}
use Rattle.serde_json.specs.Data.{Data, Items, no_items, item}
use Rattle.serde_json.specs.Find.{get, as_bool, as_str, as_array}
use Rattle.serde_json.specs.Read.{read}
use Rattle.jm_dest.specs.declared.destination.Destination.{Destination}
use Rattle.jm_machine.specs.declared.call.Who.TheVariants.{Connection as OfConnection, Session as OfSession}
use Rattle.jm_machine.specs.declared.call.Request.{Request}
use Rattle.jm_machine.specs.declared.call.Request.TheVariants as request
use Rattle.jm_machine.specs.declared.call.ClientCall.{ClientCall}
use Rattle.jm_machine.specs.declared.call.ClientCall.TheVariants as call
use Rattle.jm_fields.specs.Drafts.{draft}
use Rattle.jm_fields.specs.Fields.{operation_named, is_known}
use Rattle.jm_scenario.specs.Items.{AreWellForked, is_in_place}
use Rattle.jm_fields.specs.Reading.{where_true}
use Rattle.jm_fields.specs.Values.{number, limit, session, mode, name, moment, required, optional, destination, no_local}
use Rattle.jm_fields.specs.declared.field.Owner.{Owner}
use Rattle.jm_fields.specs.declared.field.Owner.TheVariants.{Scenario as Outer, Open, Start, Stop, CloseConnection, Session, CloseSession, Acknowledge, Recover, Commit, Rollback, Consumer, Durable, Shared, SharedDurable, CloseConsumer, Missed, Unsubscribe, Listener, Send, Receive, Take, Done, ForkOrJoin}
use Rattle.jm_scenario.specs.declared.item.Item.{Item}
use Rattle.jm_scenario.specs.declared.item.Item.TheVariants.{Call, Fork, Join}
use Rattle.jm_scenario.specs.declared.scenario.Scenario.{Scenario}

-- a call by the connection of the record
abbrev pub connection_call : Request → Data → Option ClientCall
connection_call request value = option_map (λ c. call.Ask (OfConnection c) request) (required number (codes "c") value)

-- the opening of the connection of the record, for the client of the field where it stands
abbrev pub open_call : Data → Option ClientCall
open_call value =
    option_and_then (λ c. option_map (λ client. call.Ask (OfConnection c) (request.Open client))
    (optional name (codes "client") value)) (required number (codes "c") value)

-- a call by the session of the record
abbrev pub session_request : Request → Data → Option ClientCall
session_request request value = option_map (λ s. call.Ask (OfSession s) request) (required session (codes "s") value)

-- a commit of the session of the record
abbrev pub commit_call : Data → Option ClientCall
commit_call value = option_map call.CommitSession (required session (codes "s") value)

-- a call by the session of the record, about its consumer
abbrev pub consumer_request : (ℕ → Request) → Data → Option ClientCall
consumer_request request value =
    option_and_then (λ s. option_map (λ k. call.Ask (OfSession s) (request k)) (required number (codes "k") value)) (required session (codes "s") value)

-- a new session of that mode
abbrev pub session_call : Data → Option ClientCall
session_call value =
    option_and_then (λ s. option_map (λ m. call.Ask (OfSession s) (request.CreateSession m)) (required mode (codes "mode") value))
    (required session (codes "s") value)

-- a new consumer of that queue or topic, with the text of the selector where the field stands, and with the mark of
-- the field `noLocal`
abbrev pub consumer_call : Data → Option ClientCall
consumer_call value =
    option_and_then (λ s. option_and_then (λ k. option_and_then (λ d. option_and_then (λ selector. option_map (λ mark.
    call.Ask (OfSession s) (request.CreateConsumer k d selector mark)) (no_local value)) (optional as_str (codes "selector") value))
    (destination value)) (required number (codes "k") value)) (required session (codes "s") value)

-- a consumer of the unshared durable subscription of that name, which asks for that topic, that selector and that mark
abbrev pub durable_call : Data → Option ClientCall
durable_call value =
    option_and_then (λ s. option_and_then (λ k. option_and_then (λ d. option_and_then (λ n. option_and_then (λ selector. option_map (λ mark.
    call.Ask (OfSession s) (request.CreateDurable k d n selector mark)) (no_local value)) (optional as_str (codes "selector") value))
    (required name (codes "name") value)) (destination value)) (required number (codes "k") value)) (required session (codes "s") value)

-- a consumer of the shared subscription of that name, which asks for that topic and that selector
abbrev pub shared_call : (ℕ → Destination → List ℕ → Option (List ℕ) → Request) → Data → Option ClientCall
shared_call request value =
    option_and_then (λ s. option_and_then (λ k. option_and_then (λ d. option_and_then (λ n. option_map (λ selector.
    call.Ask (OfSession s) (request k d n selector)) (optional as_str (codes "selector") value))
    (required name (codes "name") value)) (destination value)) (required number (codes "k") value)) (required session (codes "s") value)

-- the end of the durable subscription of that name
abbrev pub unsubscribe_call : Data → Option ClientCall
unsubscribe_call value =
    option_and_then (λ s. option_map (λ n. call.Ask (OfSession s) (request.Unsubscribe n)) (required name (codes "name") value))
    (required session (codes "s") value)

-- a call by the session of the record, about its consumer, with the truth value of that field
abbrev pub mark_call : (ℕ → Bool → Request) → List ℕ → Data → Option ClientCall
mark_call request field value =
    option_and_then (λ s. option_and_then (λ k. option_map (λ mark. call.Ask (OfSession s) (request k mark))
    (required as_bool field value)) (required number (codes "k") value)) (required session (codes "s") value)

-- a receive of that consumer, or a take of its listener, at that moment
abbrev pub receive_call : (ℕ → ℕ → Request) → Data → Option ClientCall
receive_call request value =
    option_and_then (λ s. option_and_then (λ k. option_map (λ now. call.Ask (OfSession s) (request k now))
    (required moment (codes "now") value)) (required number (codes "k") value)) (required session (codes "s") value)

-- a send to that queue or topic at that moment
abbrev pub send_call : Data → Option ClientCall
send_call value =
    option_and_then (λ s. option_and_then (λ to. option_and_then (λ now. option_map (λ d. call.Send s d to now)
    (draft value)) (required moment (codes "now") value)) (destination value)) (required session (codes "s") value)

-- the call of that operation, whatever other fields stand
abbrev pub call_as : Owner → Data → Option ClientCall
call_as Outer value = None
call_as Open value = open_call value
call_as Start value = connection_call request.Start value
call_as Stop value = connection_call request.Stop value
call_as CloseConnection value = connection_call request.CloseConnection value
call_as Session value = session_call value
call_as CloseSession value = session_request request.CloseSession value
call_as Acknowledge value = session_request request.Acknowledge value
call_as Recover value = session_request request.Recover value
call_as Commit value = commit_call value
call_as Rollback value = session_request request.Rollback value
call_as Consumer value = consumer_call value
call_as Durable value = durable_call value
call_as Shared value = shared_call request.CreateShared value
call_as SharedDurable value = shared_call request.CreateSharedDurable value
call_as CloseConsumer value = consumer_request request.CloseConsumer value
call_as Missed value = consumer_request request.Missed value
call_as Unsubscribe value = unsubscribe_call value
call_as Listener value = mark_call request.SetListener (codes "on") value
call_as Send value = send_call value
call_as Receive value = receive_call request.Receive value
call_as Take value = receive_call request.Take value
call_as Done value = mark_call request.Done (codes "ok") value
call_as ForkOrJoin value = None

-- the operation of a record
abbrev pub operation : Data → Option Owner
operation value = option_and_then operation_named (option_and_then as_str (get (codes "op") value))

-- the call that a value spells
abbrev pub call_of : Data → Option ClientCall
call_of value = option_and_then (λ owner. where_true (is_known owner value) (call_as owner value)) (operation value)

-- the fork or join of that operation
abbrev pub fork_or_join_named : List ℕ → Option Item
fork_or_join_named text =
    if bytes_eq text (codes "fork") then Some Fork else
    (if bytes_eq text (codes "join") then Some Join else None)

-- the fork or join of a record's operation
abbrev pub fork_or_join : Data → Option Item
fork_or_join value = option_and_then fork_or_join_named (option_and_then as_str (get (codes "op") value))

-- a fork or join, which has no other fields; or a call
abbrev pub item_as : Option Item → Data → Option Item
item_as (Some one) value = where_true (is_known ForkOrJoin value) (Some one)
item_as None value = option_map Call (call_of value)

-- the item that a value spells
abbrev pub item_of : Data → Option Item
item_of value = item_as (fork_or_join value) value

-- an item that is spelled, where it has its place: where a fork is open, or where none is
abbrev pub where_in_place : Bool → Option Item → Option Item
where_in_place is_forked spelled = option_and_then (λ one. where_true (is_in_place is_forked one) (Some one)) spelled

-- a call that is spelled, where it has its place
abbrev pub call_in_place : Bool → Option ClientCall → Option ClientCall
call_in_place is_forked spelled = option_and_then (λ one. where_true (is_in_place is_forked (Call one)) (Some one)) spelled

-- the items that the values of an array spell, in order
abbrev pub items_of : Items → Option (List Item)
items_of no_items = Some []
items_of (item value values) = option_and_then (λ first. option_map (λ rest. first ∷ rest) (items_of values)) (item_of value)

-- the scenario that a value spells, whatever the places of its items: the items of its array `calls`, with the limit of the
-- field `held` where it stands, and no other field
abbrev pub scenario : Data → Option Scenario
scenario value = option_and_then (λ values. option_and_then (λ held. where_true (is_known Outer value)
    (option_map (λ items. record { held = held; items = items }) (items_of values)))
    (optional limit (codes "held") value)) (option_and_then as_array (get (codes "calls") value))

-- the same of a JSON text
abbrev pub scenario_of_text : List ℕ → Option Scenario
scenario_of_text text = option_and_then scenario (read text)

-- those items are spelled, and have their places
abbrev pub AreSpelled : Option (List Item) → List Item → Type 0
AreSpelled spelled items = (spelled ≡ Some items) × AreWellForked items

-- no items are spelled that have their places
abbrev pub AreNoneSpelled : Option (List Item) → Type 0
AreNoneSpelled spelled = (items : List Item) → AreSpelled spelled items → ⊥

-- that scenario is spelled, and its forks, joins and calls have their places
abbrev pub IsSpelled : Option Scenario → Scenario → Type 0
IsSpelled spelled one = (spelled ≡ Some one) × AreWellForked one.items

-- no scenario is spelled whose forks, joins and calls have their places
abbrev pub IsNoneSpelled : Option Scenario → Type 0
IsNoneSpelled spelled = (one : Scenario) → IsSpelled spelled one → ⊥

-- a JSON text spells that scenario
abbrev pub Spells : List ℕ → Scenario → Type 0
Spells text one = IsSpelled (scenario_of_text text) one

-- a JSON text spells no scenario
abbrev pub SpellsNone : List ℕ → Type 0
SpellsNone text = IsNoneSpelled (scenario_of_text text)
