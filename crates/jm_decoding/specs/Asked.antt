-- What a row of station asks for, beside its key.
use Rattle.std.specs.Prelude.{◌≡◌, pos, true, []}
use Rattle.sqlite.specs.Kind.TheVariants.{Integer, Text as text}
use Rattle.sqlite_schema.specs.Rules.{kind_of}
use Rattle.sqlite_value.specs.declared.value.Value.{Value}
use Rattle.sqlite_value.specs.declared.value.Value.TheVariants.{Int, Text}
use Rattle.sqlite_value.specs.Order.{Row, column, bytes}
use Rattle.sqlite_rules.specs.Edit.{id_in}
use Rattle.jm_tables.specs.Valid.{is_mark, is_stored_name, is_stored_selector, may_share}

-- the value is a mark
pub record IsMarkIn (v : Value) : Type 0 where
  pub kind : kind_of v ≡ Integer
  pub mark : is_mark (id_in v) ≡ true

-- the value is a name
pub record IsNameIn (v : Value) : Type 0 where
  pub kind : kind_of v ≡ text
  pub name : is_stored_name (bytes v) ≡ true

-- the value is a selector that is not refused
pub record IsSelectorIn (v : Value) : Type 0 where
  pub kind : kind_of v ≡ text
  pub selector : is_stored_selector (bytes v) ≡ true

-- it asks for nothing, as the station of a queue
pub record AsksNothing (r : Row) : Type 0 where
  pub shared : column r 4 ≡ Int (pos 0)
  pub topic : column r 5 ≡ Text []
  pub selector : column r 6 ≡ Text []
  pub no_local : column r 7 ≡ Int (pos 0)

-- it asks for what a durable subscription with its client may
pub record MayAsk (r : Row) : Type 0 where
  pub shared : IsMarkIn (column r 4)
  pub topic : IsNameIn (column r 5)
  pub selector : IsSelectorIn (column r 6)
  pub no_local : IsMarkIn (column r 7)
  pub shares : may_share (id_in (column r 4)) (bytes (column r 2)) (id_in (column r 7)) ≡ true
