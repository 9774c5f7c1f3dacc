-- Which rows a store has, as far as each row by itself says.
use Rattle.std.specs.Prelude.{◌≡◌, ◌≤◌, ℕ, pos, Bool, true, ◌&&◌, ◌||◌, List}
use Rattle.std.specs.List.{AllByRecursion}
use Rattle.std.specs.Ordering.{int_eq}
use Rattle.std.specs.Str.{is_utf8}
use Rattle.jm_machine.specs.Rows.{greatest_count}
use Rattle.sqlite_value.specs.Order.{Row, column, bytes}
use Rattle.sqlite_trees.specs.Tree.{Trees, rowid}
use Rattle.sqlite_rules.specs.Edit.{id_in}
use Rattle.jm_tables.specs.Schema.{meta_tree, station_tree, message_tree, held_tree, delayed_tree}
use Rattle.jm_tables.specs.Valid.{IsMeta, IsOpening, is_mark, is_queue, is_stored_client, is_stored_name, may_share}

-- the one row of meta says version 2, and the number of an opening
pub record IsOpened (rows : List Row) : Type 0 where
  pub opening : ℕ
  pub meta : IsMeta (pos 2) (pos opening) rows
  pub within : IsOpening opening

-- a row of a durable subscription that there may be, if its selector is one
abbrev pub is_subscription_row : Row → Bool
is_subscription_row r =
    int_eq (id_in (column r 1)) (pos 2) && is_stored_client (bytes (column r 2)) && is_stored_name (bytes (column r 3)) && is_mark (id_in (column r 7))
    && is_stored_name (bytes (column r 5)) && is_utf8 (bytes (column r 6)) && may_share (id_in (column r 4)) (bytes (column r 2)) (id_in (column r 7))

-- a row of station is that of a queue, or such a row of a durable subscription
abbrev pub IsStationRow : Row → Type 0
IsStationRow r = (is_queue r || is_subscription_row r) ≡ true

-- a row of message stands at a place, which is not negative
pub record IsMessageRow (r : Row) : Type 0 where
  pub place : ℕ
  pub place_is : id_in (rowid r) ≡ pos place

-- a row of held has a count of deliveries
pub record IsHeldRow (r : Row) : Type 0 where
  pub count : ℕ
  pub count_is : id_in (column r 5) ≡ pos count
  pub within : count ≤ greatest_count

-- a row of delayed has a moment, which is not negative
pub record IsDelayRow (r : Row) : Type 0 where
  pub due : ℕ
  pub due_is : id_in (column r 2) ≡ pos due

-- all rows are such
pub record HasOwnRows (db : Trees) : Type 0 where
  pub meta : IsOpened (db meta_tree)
  pub stations : AllByRecursion IsStationRow (db station_tree)
  pub messages : AllByRecursion IsMessageRow (db message_tree)
  pub held : AllByRecursion IsHeldRow (db held_tree)
  pub delayed : AllByRecursion IsDelayRow (db delayed_tree)
