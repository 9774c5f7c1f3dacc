-- When a database is a store's.
use Rattle.std.specs.Prelude.{◌≡◌, true}
use Rattle.sqlite_value.specs.Order.{Row}
use Rattle.std.specs.Prelude.{List}
use Rattle.sqlite.specs.Tree.{IsTable}
use Rattle.sqlite.specs.Edit.{have_rowids}
use Rattle.sqlite.specs.Effect.{Database, IsDatabase}
use Rattle.jm_tables.specs.Schema.{schema, meta_tree, station_tree, message_tree, held_tree, delayed_tree}

-- the rows stand by rowid, which is a number, and none comes twice
pub record AreRows (rows : List Row) : Type 0 where
  pub rise : IsTable rows
  pub numbered : have_rowids rows ≡ true

-- it has the schema, obeys it, and no two rows of a table have one rowid
pub record Serves (db : Database) : Type 0 where
  pub schema_is : db.schema ≡ schema
  pub sound : IsDatabase db
  pub meta : AreRows (db.trees meta_tree)
  pub stations : AreRows (db.trees station_tree)
  pub messages : AreRows (db.trees message_tree)
  pub held : AreRows (db.trees held_tree)
  pub delayed : AreRows (db.trees delayed_tree)
