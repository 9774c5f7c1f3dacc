-- What a write leaves of messages are records of messages, where those were that stood before.
use Rattle.std.proofs.Common.{◌≡◌, ℕ, ◌+◌, Bool, true, false, List, [], ◌∷◌, map, Option, None, Some, IfSome, refl, sym, subst}
use Rattle.std.specs.Prelude.{◌&&◌, ◌==◌, MatchBool, if◌then◌else◌, IsTrue}
use Rattle.std.specs.List.{AllByRecursion}
use Rattle.sqlite_trees.specs.Tree.{Trees}
use Rattle.sqlite_trees.proofs.ListLemmas.{all-append}
use Rattle.jm_base.specs.declared.mode.Mode.{Mode}
use Rattle.jm_base.specs.declared.mode.Mode.TheVariants.{Client}
use Rattle.jm_dest.specs.declared.destination.Destination.{Destination}
use Rattle.jm_dest.specs.declared.destination.Destination.TheVariants.{Queue, Topic}
use Rattle.jm_dest.specs.declared.key.Key.{Key}
use Rattle.jm_dest.specs.declared.session.SessionId.{SessionId}
use Rattle.jm_header.specs.declared.content.Content.{Content}
use Rattle.jm_format.specs.Messages.{IsMessage}
use Rattle.jm_machine.specs.declared.call.Who.{Who}
use Rattle.jm_machine.specs.declared.call.Who.TheVariants.{Connection, Session}
use Rattle.jm_machine.specs.declared.call.Call.{Call}
use Rattle.jm_machine.specs.declared.call.Call.TheVariants.{Ask, Publish, Commit}
use Rattle.jm_machine.specs.declared.call.Request.{Request}
use Rattle.jm_machine.specs.declared.call.Request.TheVariants.{Open, Start, Stop, CloseConnection, CreateSession, CloseSession, CreateConsumer, CreateDurable, CreateShared, CreateSharedDurable, Unsubscribe, CloseConsumer, Receive, Acknowledge, Recover, Rollback, Missed, SetListener, Take, Done}
use Rattle.jm_machine.specs.declared.state.Definition.{Definition}
use Rattle.jm_machine.specs.declared.state.PlacedRow.{PlacedRow}
use Rattle.jm_machine.specs.declared.state.Row.{Row}
use Rattle.jm_machine.specs.Life.{client_of, is_started, mode_of}
use Rattle.jm_machine.specs.Rows.{raised, settles_at_once}
use Rattle.jm_machine.specs.Machine.{State, asked, consumer_of, definition_of, durable_of, is_client, key_at, of_number, of_session, same_definition, selected_by, station_of}
use Rattle.jm_machine.specs.Under.{is_persistent, next_under, placed_under}
use Rattle.jm_keep.specs.Calls.{AreChanges, AreDelivered, AreDone, ArePublished, AreReceived, AreRequested, AreSubscribed, DropsThen, brought, come, queue_station}
use Rattle.jm_keep.specs.Leads.{drops, put_delay, puts}
use Rattle.jm_keep.specs.Persisted.{due_time, is_lasting}
use Rattle.jm_keep.specs.Steps.{all_under, counted, lapsed_under, out_through, out_under, taken_under}
use Rattle.jm_keep.specs.Stored.{Stored, changed, changed_all, message_after, nothing}
use Rattle.jm_keep.specs.declared.change.RowChange.{RowChange}
use Rattle.jm_keep.specs.declared.change.RowChange.TheVariants.{DropHeld, DropMessage, DropStation, PutStation, PutMessage, PutHeld, SetCount, DropDelay, PutDelay}
use Rattle.jm_tables.specs.Rows.{record_at, stored_in}
use Rattle.jm_tables.specs.Schema.{message_tree}
use Rattle.jm_writes.specs.Records.{BringsRecord, IsRecord, StoresRecords}
use Rattle.jm_holds.specs.Holds.{PublishesMessages}
use Rattle.jm_writes.specs.Steps.{Holds}

-- ---- what is written

-- where nothing is stored, no message is
pub nothing_stores : StoresRecords nothing
nothing_stores place = tt

gone_or : (t : Bool) (b : Option (List ℕ)) → IfSome b IsRecord → IfSome (if t then None else b) IsRecord
gone_or true b h = tt
gone_or false b h = h

come_or : (t : Bool) (new : List ℕ) (b : Option (List ℕ)) → IsRecord new → IfSome b IsRecord → IfSome (if t then Some new else b) IsRecord
come_or true new b is h = is
come_or false new b is h = h

after : (p : ℕ) (b : Option (List ℕ)) (change : RowChange) → IfSome b IsRecord → BringsRecord change → IfSome (message_after p b change) IsRecord
after p b (DropHeld key place) h brings = h
after p b (DropMessage place) h brings = gone_or (place == p) b h
after p b (DropStation key) h brings = h
after p b (PutStation key definition) h brings = h
after p b (PutMessage place bytes) h brings = come_or (place == p) bytes b brings h
after p b (PutHeld key place) h brings = h
after p b (SetCount key place count) h brings = h
after p b (DropDelay place) h brings = h
after p b (PutDelay place due) h brings = h

-- the changes leave records where they bring records
pub changed_stores : (stored : Stored) (changes : List RowChange) → StoresRecords stored → AllByRecursion BringsRecord changes → StoresRecords (changed_all stored changes)
changed_stores stored [] stores brings = stores
changed_stores stored (change ∷ changes) stores brings = changed_stores (changed stored change) changes (λ place. after place (stored.message place) change (stores place) brings.0) brings.1

-- so does a write of them, and what a stop leaves of it
pub written_stores : (old new : Trees) (changes : List RowChange) → Holds (changed_all (stored_in old) changes) old new → StoresRecords (stored_in old) → AllByRecursion BringsRecord changes → StoresRecords (stored_in new)
written_stores old new changes holds stores brings = subst StoresRecords (sym holds.stored_is) (changed_stores (stored_in old) changes stores brings)

some_record : (o : Option (List ℕ)) (bytes : List ℕ) → o ≡ Some bytes → IfSome o IsRecord → IsRecord bytes
some_record o bytes is h = subst (λ (x : Option (List ℕ)). IfSome x IsRecord) is h

-- what stands at a place is the record of a message
pub record_there : (db : Trees) (place : ℕ) (bytes : List ℕ) → StoresRecords (stored_in db) → record_at place (db message_tree) ≡ Some bytes → IsRecord bytes
record_there db place bytes stores is = some_record (record_at place (db message_tree)) bytes is (stores place)

-- ---- what a call asks for

none_of : {X : Type 0} (f : X → RowChange) → ((x : X) → BringsRecord (f x)) → (xs : List X) → AllByRecursion BringsRecord (map f xs)
none_of f each [] = tt
none_of f each (x ∷ xs) = (each x, none_of f each xs)

dropped : (rows : List (Key × ℕ)) (delays places : List ℕ) → AllByRecursion BringsRecord (drops rows delays places)
dropped [] [] [] = tt
dropped [] [] (p ∷ places) = (tt, dropped [] [] places)
dropped [] (d ∷ delays) places = (tt, dropped [] delays places)
dropped (x ∷ rows) delays places = (tt, dropped rows delays places)

dropped_then : (goes : Key → ℕ → Row → Bool) (state : State) (others changes : List RowChange) → DropsThen goes state others changes → AllByRecursion BringsRecord others → AllByRecursion BringsRecord changes
dropped_then goes state others changes is rest =
    subst (AllByRecursion BringsRecord) (sym is.changes_are) (all-append BringsRecord (drops is.rows is.delays is.places) others (dropped is.rows is.delays is.places) rest)

delay_put : (place : ℕ) (due : Option ℕ) → AllByRecursion BringsRecord (put_delay place due)
delay_put place None = tt
delay_put place (Some due) = (tt, tt)

station_put : (d : Destination) → AllByRecursion BringsRecord (queue_station d)
station_put (Queue name) = (tt, tt)
station_put (Topic name) = tt

put : (keys : List Key) (place : ℕ) (m : Content) → IsMessage m → IsTrue (is_persistent m.mode) → AllByRecursion BringsRecord (puts keys place m)
put keys place m is persistent = (
  (m, record { message = is; record_is = refl; persistent = persistent }),
  all-append BringsRecord (put_delay place (due_time m)) (map (λ (key : Key). PutHeld key place) keys) (delay_put place (due_time m)) (none_of (λ (key : Key). PutHeld key place) (λ x. tt) keys),
)

came : (m : Content) (place : ℕ) (keys : List Key) → IsMessage m → IsTrue (is_persistent m.mode) → AllByRecursion BringsRecord (come m place keys)
came m place [] is persistent = tt
came m place (key ∷ keys) is persistent = all-append BringsRecord (queue_station m.destination) (puts (key ∷ keys) place m) (station_put m.destination) (put (key ∷ keys) place m is persistent)

if_persistent : (m : Content) (place : ℕ) (keys : List Key) → IsMessage m → (t : Bool) → is_persistent m.mode ≡ t → AllByRecursion BringsRecord (if t then come m place keys else [])
if_persistent m place keys is true persistent = came m place keys is persistent
if_persistent m place keys is false transient = tt

published : (state : State) (place : ℕ) (messages : List Content) (changes : List RowChange) → ArePublished state place messages changes → AllByRecursion IsMessage messages → AllByRecursion BringsRecord changes
published state place [] changes are is = subst (AllByRecursion BringsRecord) (sym are) tt
published state place (m ∷ messages) changes are is =
    subst (AllByRecursion BringsRecord) (sym are.4)
    (all-append BringsRecord (brought m place are.0) are.1 (if_persistent m place are.0 is.0 (is_persistent m.mode) refl) (published state (place + 1) messages are.1 are.3 is.1))

unchanged : (changes : List RowChange) → changes ≡ [] → AllByRecursion BringsRecord changes
unchanged changes none = subst (AllByRecursion BringsRecord) (sym none) tt

either : (b : Bool) (P Q R : Type 0) → MatchBool b P Q → (P → R) → (Q → R) → R
either true P Q R h so other = so h
either false P Q R h so other = other h

subscribed : (k : Key) (d : Definition) (old : Option Definition) (state : State) (changes : List RowChange) → AreSubscribed k d old state changes → AllByRecursion BringsRecord changes
subscribed k d None state changes are = subst (AllByRecursion BringsRecord) (sym are) (tt, tt)
subscribed k d (Some old) state changes are =
    either (same_definition old d) _ _ _ are (unchanged changes)
    (λ then_put. dropped_then (all_under k) state (DropStation k ∷ PutStation k (Some d) ∷ []) changes then_put (tt, (tt, tt)))

count_if : (t : Bool) (k : Key) (place count : ℕ) → AllByRecursion BringsRecord (if t then SetCount k place count ∷ [] else [])
count_if true k place count = (tt, tt)
count_if false k place count = tt

count_put : (k : Key) (next : Option PlacedRow) → AllByRecursion BringsRecord (counted k next)
count_put k None = tt
count_put k (Some x) = count_if (is_persistent x.row.message.mode) k x.place (raised x.row.count)

delivered : (mode : Option Mode) (p : Content → Bool) (now : ℕ) (k : Key) (state : State) (changes : List RowChange) → AreDelivered mode p now k state changes → AllByRecursion BringsRecord changes
delivered mode p now k state changes are =
    either (is_lasting k) _ _ _ are
    (λ lasting. either (settles_at_once mode) _ _ _ lasting
    (λ settled. dropped_then (taken_under k now (next_under p now k (placed_under state k))) state [] changes settled tt)
    (λ out. dropped_then (lapsed_under k now) state (counted k (next_under p now k (placed_under state k))) changes out (count_put k (next_under p now k (placed_under state k)))))
    (unchanged changes)

received : (mode : Option Mode) (p : Content → Bool) (now : ℕ) (k : Option Key) (state : State) (changes : List RowChange) → AreReceived mode p now k state changes → AllByRecursion BringsRecord changes
received mode p now None state changes are = unchanged changes are
received mode p now (Some k) state changes are = delivered mode p now k state changes are

done_with : (p : SessionId → ℕ → Bool) (k : Option Key) (state : State) (changes : List RowChange) → AreDone p k state changes → AllByRecursion BringsRecord changes
done_with p None state changes are = unchanged changes are
done_with p (Some k) state changes are = either (is_lasting k) _ _ _ are (λ lasting. dropped_then (out_under k p) state [] changes lasting tt) (unchanged changes)

requested : (state : State) (s : SessionId) (request : Request) (changes : List RowChange) → AreRequested state s request changes → AllByRecursion BringsRecord changes
requested state s (CreateDurable c destination name selector no_local) changes are =
    subscribed (durable_of (client_of state.life) s name) (asked destination selector no_local false) (definition_of (station_of (durable_of (client_of state.life) s name) state.stations)) state changes are
requested state s (CreateSharedDurable c destination name selector) changes are =
    subscribed (durable_of (client_of state.life) s name) (asked destination selector false true) (definition_of (station_of (durable_of (client_of state.life) s name) state.stations)) state changes are
requested state s (Unsubscribe name) changes are =
    dropped_then (all_under (durable_of (client_of state.life) s name)) state (DropStation (durable_of (client_of state.life) s name) ∷ []) changes are (tt, tt)
requested state s (Receive c now) changes are =
    either (is_started state.life s.connection) _ _ _ are
    (received (mode_of state.life s) (selected_by (consumer_of state.consumers s c)) now (key_at (consumer_of state.consumers s c)) state changes) (unchanged changes)
requested state s Acknowledge changes are = either (is_client (mode_of state.life s)) _ _ _ are (λ settled. dropped_then (out_through (of_session s)) state [] changes settled tt) (unchanged changes)
requested state s (Take c now) changes are =
    either (is_started state.life s.connection) _ _ _ are
    (received (Some Client) (selected_by (consumer_of state.consumers s c)) now (key_at (consumer_of state.consumers s c)) state changes) (unchanged changes)
requested state s (Done c ok) changes are =
    either (ok && settles_at_once (mode_of state.life s)) _ _ _ are (done_with (of_number s c) (key_at (consumer_of state.consumers s c)) state changes) (unchanged changes)
requested state s (Open client) changes are = unchanged changes are
requested state s Start changes are = unchanged changes are
requested state s Stop changes are = unchanged changes are
requested state s CloseConnection changes are = unchanged changes are
requested state s (CreateSession mode) changes are = unchanged changes are
requested state s CloseSession changes are = unchanged changes are
requested state s (CreateConsumer c destination selector no_local) changes are = unchanged changes are
requested state s (CreateShared c destination name selector) changes are = unchanged changes are
requested state s (CloseConsumer c) changes are = unchanged changes are
requested state s Recover changes are = unchanged changes are
requested state s Rollback changes are = unchanged changes are
requested state s (Missed c) changes are = unchanged changes are
requested state s (SetListener c on) changes are = unchanged changes are

-- the changes that a call asks for bring records of messages, where what it publishes are messages
pub call_brings : (state : State) (who : Who) (call : Call) (changes : List RowChange) → AreChanges state who call changes → PublishesMessages call → AllByRecursion BringsRecord changes
call_brings state (Connection c) call changes are publishes = unchanged changes are
call_brings state (Session s) (Ask request) changes are publishes = requested state s request changes are
call_brings state (Session s) (Publish messages) changes are publishes = published state state.next_place messages changes are publishes
call_brings state (Session s) (Commit messages) changes are publishes =
    dropped_then (out_through (of_session s)) state are.published changes are.are_settled (published state state.next_place messages are.published are.are_published publishes)
