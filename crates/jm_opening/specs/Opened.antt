-- What the opening makes of a database.
use Rattle.std.specs.Prelude.{◌≡◌, ◌⊎◌, ℕ, ◌+◌, ◌==◌, pos, true, List, [], ◌∷◌, Option, Some, None, if◌then◌else◌, ⊤}
use Rattle.std.specs.List.{AllByRecursion}
use Rattle.sqlite_value.specs.declared.value.Value.TheVariants.{Int}
use Rattle.sqlite_value.specs.Order.{Row}
use Rattle.sqlite_trees.specs.Tree.{Trees}
use Rattle.sqlite.specs.Schema.{Schema}
use Rattle.sqlite.specs.Change.{KeepsRows}
use Rattle.sqlite.specs.Effect.{Database, IsDatabase}
use Rattle.sqlite.specs.State.{State, Shows}
use Rattle.jm_tables.specs.Schema.{meta_tree, delayed_tree, station, message, held, delayed, no_schema, schema_1_bare, schema_1, schema}
use Rattle.jm_tables.specs.Sound.{AreRows}
use Rattle.jm_opening.specs.Meta.{meta_row, meta_shown}
use Rattle.jm_opening.specs.declared.found.Found.{Found}
use Rattle.jm_opening.specs.declared.found.Found.TheVariants.{Blank, Bare, Indexed, Current}

-- the schema of a database that is found so
abbrev pub schema_of : Found → Schema
schema_of Blank = no_schema
schema_of (Bare opening) = schema_1_bare
schema_of (Indexed opening) = schema_1
schema_of (Current opening) = schema

-- the tables are those of a version
abbrev pub IsOfStore : Schema → Type 0
IsOfStore s = (s ≡ schema) ⊎ ((s ≡ schema_1) ⊎ (s ≡ schema_1_bare))

-- the version of its tables, where it has tables
abbrev pub version_of : Found → Option ℕ
version_of Blank = None
version_of (Bare opening) = Some 1
version_of (Indexed opening) = Some 1
version_of (Current opening) = Some 2

-- the number of this opening
abbrev pub opening_of : Found → ℕ
opening_of Blank = 1
opening_of (Bare opening) = opening
opening_of (Indexed opening) = opening
opening_of (Current opening) = opening

-- the one row of meta has that version, and the number of the opening before
abbrev pub SaysLast : Option ℕ → ℕ → List Row → Type 0
SaysLast None opening rows = ⊤
SaysLast (Some version) opening rows =
    (last : ℕ) × (opening ≡ last + 1) × ((row : Row) × (rows ≡ row ∷ []) × (meta_shown row ≡ Int (pos 1) ∷ Int (pos version) ∷ Int (pos last) ∷ []))

-- the database is found so
pub record IsFound (found : Found) (db : Database) : Type 0 where
  pub schema_is : db.schema ≡ schema_of found
  pub says : SaysLast (version_of found) (opening_of found) (db.trees meta_tree)

-- the rows of the tree after the opening: a new table is empty
abbrev pub rows_after : Found → Trees → ℕ → List Row
rows_after Blank db tree = []
rows_after (Bare opening) db tree = if tree == delayed_tree then [] else db tree
rows_after (Indexed opening) db tree = if tree == delayed_tree then [] else db tree
rows_after (Current opening) db tree = db tree

-- The database that was found so is opened: it has the tables of version 2 and the next number, and its other rows are as before.
pub record IsOpened (found : Found) (old new : Database) : Type 0 where
  pub schema_is : new.schema ≡ schema
  pub sound : IsDatabase new
  pub meta : new.trees meta_tree ≡ meta_row 2 (opening_of found) ∷ []
  pub rows : AllByRecursion (λ t. new.trees t.tree ≡ rows_after found old.trees t.tree) (station ∷ message ∷ held ∷ delayed ∷ [])

-- each table has rows with rowids, of which none comes twice
abbrev pub AreTables : Database → Type 0
AreTables db = AllByRecursion (λ t. AreRows (db.trees t.tree)) db.schema.tables

-- tables are made in the transaction, which goes on with that schema; the rows of those that stood are as before
pub record Grows (before after : Schema) (old new : State) : Type 0 where
  pub schema_is : new.now.schema ≡ after
  pub sound : IsDatabase new.now
  pub rows : KeepsRows before.tables old.now.trees new.now.trees
  pub shown : Shows old new new.now old.committed true

-- meta has that row alone, in the transaction, which goes on; all other rows are as before
pub record Sets (row : Row) (old new : State) : Type 0 where
  pub schema_is : new.now.schema ≡ schema
  pub sound : IsDatabase new.now
  pub meta : new.now.trees meta_tree ≡ row ∷ []
  pub rows : AllByRecursion (λ t. new.now.trees t.tree ≡ old.now.trees t.tree) (station ∷ message ∷ held ∷ delayed ∷ [])
  pub shown : Shows old new new.now old.committed true

-- the transaction has opened the database that was found so, and goes on
pub record Leads (found : Found) (old new : State) : Type 0 where
  pub opened : IsOpened found old.now new.now
  pub shown : Shows old new new.now old.committed true

-- what the disk holds, or may hold after a stop, is the opened database
abbrev pub HoldsOpened : Found → Database → Trees → Type 0
HoldsOpened found old db = (after : Database) × (db ≡ after.trees) × IsOpened found old after
