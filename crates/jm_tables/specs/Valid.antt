-- What a file may hold.
use Rattle.std.specs.Prelude.{◌≡◌, ◌≤◌, ℕ, ℤ, pos, Bool, true, not, ◌&&◌, ◌||◌, List, [], ◌∷◌, Option, Some, IsTrue, is_none, find}
use Rattle.std.specs.List.{AllByRecursion, list_any}
use Rattle.std.specs.Ordering.{int_eq}
use Rattle.std.specs.Str.{is_utf8}
use Rattle.jm_dest.specs.declared.destination.Destination.TheVariants.{Queue as ToQueue, Topic as ToTopic}
use Rattle.jm_dest.specs.declared.key.Key.{Key}
use Rattle.jm_dest.specs.declared.key.Key.TheVariants.{Queue, Durable}
use Rattle.jm_dest.specs.Names.{is_name, text_eq}
use Rattle.jm_header.specs.declared.content.Content.{Content}
use Rattle.jm_header.specs.Headers.{is_delayed}
use Rattle.jm_format.specs.Format as format
use Rattle.jm_format.specs.Messages.{IsMessage}
use Rattle.jm_machine.specs.declared.state.Definition.{Definition}
use Rattle.jm_machine.specs.Rows.{greatest_count}
use Rattle.jm_machine.specs.Under.{is_persistent}
use Rattle.jm_selector.specs.Selectors.{matches, selector_refusal}
use Rattle.sqlite_value.specs.Order.{Row, column, bytes}
use Rattle.sqlite_trees.specs.Tree.{Trees, rowid}
use Rattle.sqlite_rules.specs.Edit.{id_in}
use Rattle.jm_tables.specs.Schema.{meta_tree, station_tree, message_tree, held_tree, delayed_tree}
use Rattle.jm_tables.specs.Keys.{key_of}
use Rattle.jm_tables.specs.Rows.{definition_in, is_at, is_under, record_at}

-- ---- meta

-- the greatest number of an opening
abbrev pub greatest_opening : ℕ
greatest_opening = 4294967295

-- the one row: its version, and the number of its opening
pub record IsMeta (version : ℤ) (opening : ℤ) (rows : List Row) : Type 0 where
  pub row : Row
  pub alone : rows ≡ row ∷ []
  pub version_is : id_in (column row 2) ≡ version
  pub opening_is : id_in (column row 3) ≡ opening

-- the number is that of an opening
pub record IsOpening (opening : ℕ) : Type 0 where
  pub positive : 1 ≤ opening
  pub within : opening ≤ greatest_opening

-- ---- station

-- a name that is stored: a text of UTF-8 that may be a name
abbrev pub is_stored_name : List ℕ → Bool
is_stored_name text = is_utf8 text && is_name text

-- the client of a durable subscription: none, or a name
abbrev pub is_stored_client : List ℕ → Bool
is_stored_client [] = true
is_stored_client (byte ∷ more) = is_stored_name (byte ∷ more)

-- a selector that is stored is not refused
abbrev pub is_stored_selector : List ℕ → Bool
is_stored_selector text = is_utf8 text && is_none (selector_refusal (Some text))

-- a mark is 0 or 1
abbrev pub is_mark : ℤ → Bool
is_mark n = int_eq n (pos 0) || int_eq n (pos 1)

-- nothing but the name is set at a queue
abbrev pub is_queue : Row → Bool
is_queue r =
    int_eq (id_in (column r 1)) (pos 1) && text_eq (bytes (column r 2)) [] && is_stored_name (bytes (column r 3)) && int_eq (id_in (column r 4)) (pos 0)
    && text_eq (bytes (column r 5)) [] && text_eq (bytes (column r 6)) [] && int_eq (id_in (column r 7)) (pos 0)

-- an unshared durable subscription has a client, and a shared one no noLocal
abbrev pub may_share : ℤ → List ℕ → ℤ → Bool
may_share shared client no_local = (int_eq shared (pos 1) && int_eq no_local (pos 0)) || (int_eq shared (pos 0) && not (text_eq client []))

-- a durable subscription that there may be
abbrev pub is_subscription : Row → Bool
is_subscription r =
    int_eq (id_in (column r 1)) (pos 2) && is_stored_client (bytes (column r 2)) && is_stored_name (bytes (column r 3)) && is_mark (id_in (column r 7))
    && is_stored_name (bytes (column r 5)) && is_stored_selector (bytes (column r 6)) && may_share (id_in (column r 4)) (bytes (column r 2)) (id_in (column r 7))

-- a row of station that may be read
abbrev pub is_station : Row → Bool
is_station r = is_queue r || is_subscription r

-- ---- message

-- the bytes are the record of the message, which is PERSISTENT
pub record IsRecordOf (m : Content) (record_bytes : List ℕ) : Type 0 where
  pub message : IsMessage m
  pub record_is : record_bytes ≡ format.record m
  pub persistent : IsTrue (is_persistent m.mode)

-- a row of message that may be read
pub record IsStoredMessage (r : Row) : Type 0 where
  pub place : (at : ℕ) × (id_in (rowid r) ≡ pos at) × (1 ≤ at)
  pub message : Content
  pub record_is : IsRecordOf message (bytes (column r 2))

-- ---- held

-- the queue or subscription of that key may hold the message: it was sent to the queue, or to the topic of the subscription,
-- whose selector is absent or TRUE
abbrev pub MayHold : Option Key → Definition → Content → Type 0
MayHold (Some (Queue name)) d m = m.destination ≡ ToQueue name
MayHold (Some (Durable client name)) d m = (m.destination ≡ ToTopic d.topic) × IsTrue (matches d.selector m)
MayHold _ d m = ⊥

-- its station and its message stand, its deliveries are within their limit, and the one may hold the other
pub record IsStoredHeld (db : Trees) (r : Row) : Type 0 where
  pub place : ℕ
  pub place_is : id_in (column r 4) ≡ pos place
  pub count : ℕ
  pub count_is : id_in (column r 5) ≡ pos count
  pub count_within : count ≤ greatest_count
  pub key : Key
  pub key_is : key_of r ≡ Some key
  pub station : Row
  pub station_is : find (is_under key) (db station_tree) ≡ Some station
  pub message : Content
  pub message_is : record_at place (db message_tree) ≡ Some (format.record message)
  pub is_message : IsMessage message
  pub may_hold : MayHold (Some key) (definition_in station) message

-- ---- delayed

-- its message stands, is delayed, and becomes due then
pub record IsStoredDelay (db : Trees) (r : Row) : Type 0 where
  pub place : ℕ
  pub place_is : id_in (rowid r) ≡ pos place
  pub message : Content
  pub message_is : record_at place (db message_tree) ≡ Some (format.record message)
  pub is_message : IsMessage message
  pub is_delayed : IsTrue (is_delayed message)
  pub due_is : id_in (column r 2) ≡ pos message.delivery_time

-- ---- what no row of message may lack

-- some row of held is at the place
abbrev pub is_held_at : ℕ → List Row → Bool
is_held_at place rows = list_any (λ r. int_eq (id_in (column r 4)) (pos place)) rows

-- the message at the place has a row of held; where it is delayed, it has one of delayed
pub record IsKept (db : Trees) (r : Row) : Type 0 where
  pub place : ℕ
  pub place_is : id_in (rowid r) ≡ pos place
  pub held : IsTrue (is_held_at place (db held_tree))
  pub delayed : (m : Content) → bytes (column r 2) ≡ format.record m → IsTrue (is_delayed m) → IsTrue (list_any (is_at place) (db delayed_tree))

-- a file that may be loaded, of that opening
pub record IsValid (opening : ℕ) (db : Trees) : Type 0 where
  pub meta : IsMeta (pos 2) (pos opening) (db meta_tree)
  pub within : IsOpening opening
  pub stations : AllByRecursion (λ r. is_station r ≡ true) (db station_tree)
  pub messages : AllByRecursion IsStoredMessage (db message_tree)
  pub held : AllByRecursion (IsStoredHeld db) (db held_tree)
  pub delayed : AllByRecursion (IsStoredDelay db) (db delayed_tree)
  pub kept : AllByRecursion (IsKept db) (db message_tree)
