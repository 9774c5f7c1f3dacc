-- What an opening leaves where it is refused.
use Rattle.std.specs.Prelude.{◌≡◌, ◌⊎◌, ℕ, IsTrue}
use Rattle.sqlite.specs.Effect.{Database}
use Rattle.sqlite.specs.State.{HasCleanDisk}
use Rattle.sqlite.specs.Held.{state}
use Rattle.sqlite_trees.specs.Tree.{Trees}
use Rattle.sqlite_trees.specs.declared.store.Store.{Ghosts}
use Rattle.jm_tables.specs.Valid.{IsValid}
use Rattle.jm_opening.specs.declared.found.Found.{Found}
use Rattle.jm_opening.specs.declared.judged.OpenFault.{OpenFault}
use Rattle.jm_opening.specs.declared.outcome.Left.{Left}
use Rattle.jm_opening.specs.declared.outcome.Left.TheVariants.{Settled, Shut}
use Rattle.jm_opening.specs.Opened.{IsFound, IsOpened}
use Rattle.jm_opening.specs.Opening.{IsRefusedAs, Stands}
use Rattle.jm_load.specs.Faults.{IsFaultOf}

-- the database has what was committed, opened, and the next opening is one more
abbrev pub IsOpenedOf : Trees → Database → Type 0
IsOpenedOf committed now = (before : Database) × (before.trees ≡ committed) × ((found : Found) × IsFound found before × IsOpened found before now)

-- while it is open, it has what was committed, opened; and the fault is the first of what it has
abbrev pub StandsOpened : {S : Type 0} → Ghosts S → Trees → OpenFault → Left S → Type 0
StandsOpened g committed fault (Settled conn) = HasCleanDisk (state g conn) → IsTrue (state g conn).is_open → IsOpenedOf committed (state g conn).now × IsFaultOf (state g conn).now.trees fault
StandsOpened g committed fault (Shut store) = ⊥

-- it was not opened, and stands as it was; or it was opened, and what it holds could not be loaded, for that fault
abbrev pub IsLeft : {S : Type 0} → Ghosts S → Trees → OpenFault → Left S → Type 0
IsLeft g committed fault left = (IsRefusedAs g committed fault left × Stands g committed left) ⊎ StandsOpened g committed fault left

-- what a crash leaves is a valid file
abbrev pub LeavesValid : (Trees → Type 0) → Type 0
LeavesValid leaves = (db : Trees) → leaves db → (opening : ℕ) × IsValid opening db

-- so it is of what is left
abbrev pub LeavesValidOf : {S : Type 0} → Ghosts S → Left S → Type 0
LeavesValidOf g (Settled conn) = HasCleanDisk (state g conn) → LeavesValid (state g conn).may_leave
LeavesValidOf g (Shut store) = LeavesValid (g.recovers store)
