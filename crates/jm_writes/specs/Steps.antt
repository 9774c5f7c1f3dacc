-- What a change does in a transaction, and what a crash leaves.
use Rattle.std.specs.Prelude.{◌≡◌, ◌⊎◌, true, List, IsTrue}
use Rattle.sqlite.specs.Effect.{Database}
use Rattle.sqlite.specs.State.{State, Shows, HasCleanDisk}
use Rattle.sqlite_trees.specs.Tree.{Trees}
use Rattle.jm_keep.specs.Stored.{Stored, changed, changed_all}
use Rattle.jm_keep.specs.declared.change.RowChange.{RowChange}
use Rattle.jm_tables.specs.Schema.{meta_tree}
use Rattle.jm_tables.specs.Rows.{stored_in}
use Rattle.jm_tables.specs.Sound.{Serves}
use Rattle.jm_writes.specs.Own.{HasOwnRows}

-- what is stored is that, and the opening is the old one
pub record Holds (stored : Stored) (old db : Trees) : Type 0 where
  pub stored_is : stored_in db ≡ stored
  pub opening : db meta_tree ≡ old meta_tree

-- one change is made in the transaction
pub record Steps (old new : State) (change : RowChange) : Type 0 where
  pub serves : Serves new.now
  pub holds : Holds (changed (stored_in old.now.trees) change) old.now.trees new.now.trees
  pub own : HasOwnRows old.now.trees → HasOwnRows new.now.trees
  pub shown : Shows old new new.now old.committed true

-- so are all of them, in turn
pub record Walks (old new : State) (changes : List RowChange) : Type 0 where
  pub serves : Serves new.now
  pub holds : Holds (changed_all (stored_in old.now.trees) changes) old.now.trees new.now.trees
  pub own : HasOwnRows old.now.trees → HasOwnRows new.now.trees
  pub shown : Shows old new new.now old.committed true

-- the trees are those of a store's database, each of whose rows by itself is a store's
pub record AreOurs (db : Trees) : Type 0 where
  pub database : Database
  pub same : database.trees ≡ db
  pub serves : Serves database
  pub own : HasOwnRows db

-- the database has all the changes, and is a store's where each of its rows by itself was a store's before
pub record HasChanges (changes : List RowChange) (old db : Trees) : Type 0 where
  pub holds : Holds (changed_all (stored_in old) changes) old db
  pub ours : HasOwnRows old → AreOurs db

-- the database has all the changes, and is a store's
pub record HasAll (changes : List RowChange) (old db : Trees) : Type 0 where
  pub holds : Holds (changed_all (stored_in old) changes) old db
  pub ours : AreOurs db

-- what a crash leaves is what it could leave before, or a store's database with all the changes
abbrev pub LeavesOr : State → State → List RowChange → Type 0
LeavesOr old new changes = (db : Trees) → new.may_leave db → old.may_leave db ⊎ HasAll changes old.now.trees db

-- what a crash leaves is a store's database with all the changes
abbrev pub LeavesOnly : State → State → List RowChange → Type 0
LeavesOnly old new changes = (db : Trees) → new.may_leave db → HasAll changes old.now.trees db

-- while it is open, what it shows is what was committed, and a store's database, each of whose rows by itself is a store's
abbrev pub IsOurs : State → Type 0
IsOurs s = HasCleanDisk s → IsTrue s.is_open → Serves s.now × (s.committed ≡ s.now) × HasOwnRows s.now.trees
