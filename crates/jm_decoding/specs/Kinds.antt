-- The kinds of the columns of a row: those that the schema says.
use Rattle.std.specs.Prelude.{◌≡◌}
use Rattle.sqlite.specs.Kind.TheVariants.{Integer, Text, Blob}
use Rattle.sqlite_value.specs.Order.{Row, column}
use Rattle.sqlite_schema.specs.Rules.{kind_of}
use Rattle.sqlite_trees.specs.Tree.{rowid}

-- the columns of a key, in a row of station or of held
pub record HasKeyKinds (r : Row) : Type 0 where
  pub family : kind_of (column r 1) ≡ Integer
  pub client : kind_of (column r 2) ≡ Text
  pub name : kind_of (column r 3) ≡ Text

-- the columns of what is asked for, in a row of station
pub record HasAskedKinds (r : Row) : Type 0 where
  pub shared : kind_of (column r 4) ≡ Integer
  pub topic : kind_of (column r 5) ≡ Text
  pub selector : kind_of (column r 6) ≡ Text
  pub no_local : kind_of (column r 7) ≡ Integer

-- the columns of a row of station
pub record HasStationKinds (r : Row) : Type 0 where
  pub key : HasKeyKinds r
  pub asked : HasAskedKinds r

-- the columns of a row of message
pub record HasMessageKinds (r : Row) : Type 0 where
  pub place : kind_of (rowid r) ≡ Integer
  pub bytes : kind_of (column r 2) ≡ Blob
