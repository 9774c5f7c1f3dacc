-- A state that was loaded from a store.
use Rattle.sqlite.specs.State.{State as Shown}
use Rattle.sqlite_trees.specs.Tree.{Trees}
use Rattle.jm_keep.specs.Persisted.{IsPersisted}
use Rattle.jm_machine.specs.Machine.{State}
use Rattle.jm_opening.specs.Opening.{IsOpenedAgain}
use Rattle.jm_tables.specs.Rows.{stored_in}
use Rattle.jm_runner.specs.Stored.{IsLoaded}

-- what a store that was opened again holds was loaded from what was committed
pub loaded : (committed : Trees) (before : State) (opened : Shown) → IsOpenedAgain before.opening committed opened → IsPersisted before (stored_in opened.now.trees) → IsLoaded committed before
loaded committed before opened is stored = record {
  found = is.from.found;
  database = is.before;
  same = is.same;
  is_found = is.from.is_found;
  number = is.from.number;
  opened = opened.now;
  is_opened = is.from.opened;
  stored = stored;
}
