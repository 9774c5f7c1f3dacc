-- What a database that keeps a state has.
use Rattle.std.specs.Prelude.{ℕ, List}
use Rattle.sqlite.specs.Effect.{Database}
use Rattle.jm_machine.specs.Machine.{State}
use Rattle.jm_holds.specs.Holds.{HoldsMessages}
use Rattle.sqlite_trees.specs.Tree.{Trees}
use Rattle.jm_keep.specs.Persisted.{IsPersisted, LeadsTo}
use Rattle.jm_keep.specs.declared.change.RowChange.{RowChange}
use Rattle.jm_tables.specs.Rows.{stored_in}
use Rattle.jm_tables.specs.Sound.{Serves}
use Rattle.jm_tables.specs.Valid.{IsValid}
use Rattle.jm_writes.specs.Own.{HasOwnRows}
use Rattle.jm_writes.specs.Steps.{HasAll}

-- the tables hold what is stored of the state, and nothing else: each row by itself is one of a store's
pub record Keeps (state : State) (db : Database) : Type 0 where
  pub serves : Serves db
  pub own : HasOwnRows db.trees
  pub persisted : IsPersisted state (stored_in db.trees)

-- A database that keeps a state whose rows hold messages is a valid file, of some opening.
abbrev pub KeptIsValid : Type 0
KeptIsValid = (state : State) (db : Database) → HoldsMessages state → Keeps state db → (opening : ℕ) × IsValid opening db.trees

-- A store's database that has all changes of a valid file, where they lead from what is stored of one state to what is stored of
-- another whose rows hold messages, is a valid file of the same opening.
abbrev pub ChangedIsValid : Type 0
ChangedIsValid = (before after : State) (changes : List RowChange) (opening : ℕ) (old db : Trees) → IsValid opening old → IsPersisted before (stored_in old) → LeadsTo before after changes
    → HoldsMessages after → HasAll changes old db → IsValid opening db
