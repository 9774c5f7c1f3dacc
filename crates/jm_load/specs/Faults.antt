-- Which rows a store may have, and the first fault of a database that has another.
use Rattle.std.specs.Prelude.{◌≡◌, ◌⊎◌, ℕ, true, List, ⊤}
use Rattle.std.specs.List.{AllByRecursion}
use Rattle.sqlite_value.specs.Order.{Row, column}
use Rattle.sqlite_trees.specs.Tree.{Trees}
use Rattle.jm_tables.specs.Schema.{station_tree, message_tree, held_tree, delayed_tree}
use Rattle.jm_tables.specs.Valid.{IsKept, IsStoredDelay, IsStoredHeld, IsStoredMessage, is_station}
use Rattle.jm_queries.specs.Shown.{AreDelays, AreHeld, AreMessages, AreStations}
use Rattle.jm_opening.specs.declared.judged.OpenFault.{OpenFault}
use Rattle.jm_opening.specs.declared.judged.OpenFault.TheVariants.{Damaged, Memory, Store}
use Rattle.jm_opening.specs.declared.judged.TableName.TheVariants.{Station, Message, Held, Delayed}
use Rattle.jm_decoding.specs.Readable.{IsCountIn, IsNaturalIn}
use Rattle.jm_decoding.specs.Tables.{IsFirstDamaged}

-- ---- the rows that a store may have

-- the row of station is that of a queue, or of a durable subscription
abbrev pub IsStation : Row → Type 0
IsStation r = is_station r ≡ true

-- all rows of one table are such rows
abbrev pub AreAllStations : Trees → Type 0
AreAllStations db = AllByRecursion IsStation (db station_tree)

abbrev pub AreAllMessages : Trees → Type 0
AreAllMessages db = AllByRecursion IsStoredMessage (db message_tree)

abbrev pub AreAllHeld : Trees → Type 0
AreAllHeld db = AllByRecursion (IsStoredHeld db) (db held_tree)

abbrev pub AreAllDelays : Trees → Type 0
AreAllDelays db = AllByRecursion (IsStoredDelay db) (db delayed_tree)

-- those of all tables are
pub record AreAllRows (db : Trees) : Type 0 where
  pub stations : AreAllStations db
  pub messages : AreAllMessages db
  pub held : AreAllHeld db
  pub delays : AreAllDelays db

-- a store may have all that the database has: each row, and of each message what it may not lack
pub record IsWhole (db : Trees) : Type 0 where
  pub rows : AreAllRows db
  pub kept : AllByRecursion (IsKept db) (db message_tree)

-- as far as each row by itself says, a store may have all rows: of station and of message it is such a row, of held it has a
-- count of deliveries, and of delayed a moment
pub record AreReadRows (db : Trees) : Type 0 where
  pub stations : AreAllStations db
  pub messages : AreAllMessages db
  pub held : AllByRecursion (λ r. IsCountIn (column r 5)) (db held_tree)
  pub delays : AllByRecursion (λ r. IsNaturalIn (column r 2)) (db delayed_tree)

-- ---- the first fault

-- of the rows of a table, in the order in which it is read, the one with that index is the first that is none
pub record IsFirstOf (AreRows : List Row → Type 0) (Is : Row → Type 0) (at : ℕ) : Type 0 where
  pub rows : List Row
  pub are : AreRows rows
  pub first : IsFirstDamaged Is rows at

-- all rows of all tables are such rows, and the message with that index is the first that nobody holds, or that is delayed and
-- lacks its row of delayed
pub record IsFirstUnkept (db : Trees) (at : ℕ) : Type 0 where
  pub rows : AreAllRows db
  pub first : IsFirstOf (AreMessages db) (IsKept db) at

-- The first fault, in this order: of the rows of station, of message, of held and of delayed the first that is none; then the
-- first message that is not kept. That memory is wanted or the database refuses a query may come in place of any.
abbrev pub IsFaultOf : Trees → OpenFault → Type 0
IsFaultOf db (Damaged Station at) = IsFirstOf (AreStations db) IsStation at
IsFaultOf db (Damaged Message at) = (AreAllStations db × IsFirstOf (AreMessages db) IsStoredMessage at) ⊎ IsFirstUnkept db at
IsFaultOf db (Damaged Held at) = AreAllStations db × AreAllMessages db × IsFirstOf (AreHeld db) (IsStoredHeld db) at
IsFaultOf db (Damaged Delayed at) = AreAllStations db × AreAllMessages db × AreAllHeld db × IsFirstOf (AreDelays db) (IsStoredDelay db) at
IsFaultOf db Memory = ⊤
IsFaultOf db Store = ⊤
IsFaultOf db _ = ⊥
