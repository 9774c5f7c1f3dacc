-- Why a store is not opened.
use Rattle.std.specs.Prelude.{◌≡◌, ◌⊎◌, ℕ, false, List, map, IsTrue, ⊤}
use Rattle.std.specs.List.Sorted.{IsPermutation}
use Rattle.sqlite_value.specs.Order.{Row}
use Rattle.sqlite.specs.Effect.{Database}
use Rattle.sqlite.specs.State.{State, HasCleanDisk}
use Rattle.sqlite.specs.Held.{state}
use Rattle.sqlite_trees.specs.Tree.{Trees}
use Rattle.sqlite_trees.specs.View.{IsClean}
use Rattle.sqlite_trees.specs.declared.store.Store.{Ghosts}
use Rattle.jm_opening.specs.declared.found.Found.{Found}
use Rattle.jm_tables.specs.Schema.{meta_tree}
use Rattle.jm_tables.specs.Valid.{IsOpening}
use Rattle.jm_opening.specs.declared.judged.OpenFault.{OpenFault}
use Rattle.jm_opening.specs.declared.judged.OpenFault.TheVariants.{Memory, Store}
use Rattle.jm_opening.specs.Judged.{IsFault}
use Rattle.jm_opening.specs.Meta.{meta_shown}
use Rattle.jm_opening.specs.declared.outcome.Left.{Left}
use Rattle.jm_opening.specs.declared.outcome.Left.TheVariants.{Settled, Shut}
use Rattle.jm_opening.specs.Opened.{HoldsOpened, IsFound, IsOfStore, IsOpened, opening_of}

-- the rows of meta, in some order, are refused so
abbrev pub IsFaultOfMeta : Database → OpenFault → Type 0
IsFaultOfMeta db fault = (rows : List Row) × IsPermutation (map meta_shown (db.trees meta_tree)) rows × IsFault rows fault

-- memory was refused, the database refused a statement or its tables are not those of its version, or the rows of meta are
-- refused: what they say of tables of no version is not told
abbrev pub IsRefusal : Database → OpenFault → Type 0
IsRefusal db fault = (fault ≡ Memory) ⊎ ((fault ≡ Store) ⊎ (IsOfStore db.schema → IsFaultOfMeta db fault))

-- what was committed is the database, opened with that number, and the connection shows it
pub record IsOpenedFrom (opening : ℕ) (before : Database) (after : State) : Type 0 where
  pub found : Found
  pub is_found : IsFound found before
  pub number : opening ≡ opening_of found
  pub opened : IsOpened found before after.now
  pub is_open : IsTrue after.is_open
  pub committed : after.committed ≡ after.now

-- what a crash leaves is the database, opened, with the number of an opening
abbrev pub LeavesOpened : Database → Trees → Type 0
LeavesOpened before db = (found : Found) × IsFound found before × IsOpening (opening_of found) × HoldsOpened found before db

-- what a crash leaves is what was committed, read once more and opened
abbrev pub LeavesOpenedAgain : Trees → Trees → Type 0
LeavesOpenedAgain committed db = (before : Database) × (before.trees ≡ committed) × LeavesOpened before db

-- what a crash leaves is what it could leave before, or what was committed, opened
abbrev pub LeavesOrOpened : State → (Trees → Type 0) → Type 0
LeavesOrOpened old leaves = (db : Trees) → leaves db → old.may_leave db ⊎ LeavesOpenedAgain old.committed.trees db

-- what was committed, read once more, is opened with that number
pub record IsOpenedAgain (opening : ℕ) (committed : Trees) (after : State) : Type 0 where
  pub before : Database
  pub same : before.trees ≡ committed
  pub from : IsOpenedFrom opening before after

-- what is left is a connection in no transaction, or the store alone
abbrev pub IsInNoTransaction : {S : Type 0} → Left S → Type 0
IsInNoTransaction (Settled conn) = conn.in_transaction ≡ false
IsInNoTransaction (Shut store) = ⊤

-- while it is open, it has what was committed, and nothing else was committed
abbrev pub Stands : {S : Type 0} → Ghosts S → Trees → Left S → Type 0
Stands g committed (Settled conn) = HasCleanDisk (state g conn) → IsTrue (state g conn).is_open → ((state g conn).now.trees ≡ committed) × ((state g conn).committed.trees ≡ committed)
Stands g committed (Shut store) = IsClean (g.view store) → IsTrue (g.view store).is_open → (g.view store).trees ≡ committed

-- why it was not opened: what was committed, read once more, is refused so; or it could not be read
abbrev pub IsRefusedAs : {S : Type 0} → Ghosts S → Trees → OpenFault → Left S → Type 0
IsRefusedAs g committed fault (Settled conn) = HasCleanDisk (state g conn) → (before : Database) × (before.trees ≡ committed) × IsRefusal before fault
IsRefusedAs g committed fault (Shut store) = (fault ≡ Memory) ⊎ (fault ≡ Store)

-- what a crash leaves of what is left: of a connection, what it could leave before, or what was committed, opened; of the store
-- alone, what it could leave before
abbrev pub LeavesOf : {S : Type 0} → Ghosts S → State → Left S → Type 0
LeavesOf g old (Settled conn) = HasCleanDisk (state g conn) → LeavesOrOpened old (state g conn).may_leave
LeavesOf g old (Shut store) = (db : Trees) → g.recovers store db → old.may_leave db
