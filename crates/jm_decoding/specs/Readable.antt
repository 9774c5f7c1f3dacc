-- When a row of a table may be read, as far as the row alone says.
use Rattle.std.specs.Prelude.{◌≡◌, ◌≤◌, ℕ, ℤ, pos, Bool, true, ◌&&◌, ◌||◌, List, []}
use Rattle.std.specs.Ordering.{int_eq}
use Rattle.std.specs.Str.{is_utf8}
use Rattle.jm_dest.specs.Names.{text_eq}
use Rattle.jm_header.specs.declared.content.Content.{Content}
use Rattle.jm_machine.specs.Rows.{greatest_count}
use Rattle.sqlite.specs.Kind.TheVariants.{Integer, Text}
use Rattle.sqlite_schema.specs.Rules.{kind_of}
use Rattle.sqlite_value.specs.declared.value.Value.{Value}
use Rattle.sqlite_value.specs.Order.{Row, column, bytes}
use Rattle.sqlite_trees.specs.Tree.{rowid}
use Rattle.sqlite_rules.specs.Edit.{id_in}
use Rattle.jm_tables.specs.Valid.{IsRecordOf, IsStoredMessage, is_station, is_stored_client, is_stored_name}
use Rattle.jm_decoding.specs.Kinds.{HasKeyKinds, HasStationKinds, HasMessageKinds}

-- ---- values

-- the value is a text of UTF-8
pub record IsTextIn (v : Value) : Type 0 where
  pub kind : kind_of v ≡ Text
  pub utf8 : is_utf8 (bytes v) ≡ true

-- the value is a whole number that is not negative
pub record IsNaturalIn (v : Value) : Type 0 where
  pub kind : kind_of v ≡ Integer
  pub number : ℕ
  pub number_is : id_in v ≡ pos number

-- the value is a count of deliveries
pub record IsCountIn (v : Value) : Type 0 where
  pub kind : kind_of v ≡ Integer
  pub count : ℕ
  pub count_is : id_in v ≡ pos count
  pub within : count ≤ greatest_count

-- ---- keys

-- a family, a client and a name are the key of a queue
abbrev pub is_queue_key : ℤ → List ℕ → List ℕ → Bool
is_queue_key family client name = int_eq family (pos 1) && text_eq client [] && is_stored_name name

-- they are the key of a durable subscription
abbrev pub is_subscription_key : ℤ → List ℕ → List ℕ → Bool
is_subscription_key family client name = int_eq family (pos 2) && is_stored_client client && is_stored_name name

-- they are a key that a row of station may have
abbrev pub is_key_in : ℤ → List ℕ → List ℕ → Bool
is_key_in family client name = is_queue_key family client name || is_subscription_key family client name

-- the columns of a key have their kinds, and are a key that a row of station may have
pub record IsReadableKey (r : Row) : Type 0 where
  pub kinds : HasKeyKinds r
  pub key : is_key_in (id_in (column r 1)) (bytes (column r 2)) (bytes (column r 3)) ≡ true

-- ---- rows

-- it is a row of station that may be read
pub record IsReadableStation (r : Row) : Type 0 where
  pub kinds : HasStationKinds r
  pub station : is_station r ≡ true

-- the bytes are the record of a PERSISTENT message
pub record IsPersistentRecord (record_bytes : List ℕ) : Type 0 where
  pub message : Content
  pub record_is : IsRecordOf message record_bytes

-- it is a row of message that may be read
pub record IsReadableMessage (r : Row) : Type 0 where
  pub kinds : HasMessageKinds r
  pub stored : IsStoredMessage r

-- it is a row of held that may be read, if its station and its message stand
pub record IsReadableHeld (r : Row) : Type 0 where
  pub key : IsReadableKey r
  pub place : IsNaturalIn (column r 4)
  pub deliveries : IsCountIn (column r 5)

-- it is a row of delayed that may be read, if its message stands
pub record IsReadableDelay (r : Row) : Type 0 where
  pub place : IsNaturalIn (rowid r)
  pub due : IsNaturalIn (column r 2)
