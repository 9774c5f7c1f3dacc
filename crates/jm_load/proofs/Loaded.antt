-- A core of what the decoded rows say has stored what the tables hold.
use Rattle.std.proofs.Common.{◌≡◌, None, Option, Result, Ok, Err, IfErr, IfOk, OnOk, subst}
use Rattle.sqlite.specs.Effect.{Database}
use Rattle.sqlite_trees.specs.Tree.{Trees}
use Rattle.jm_plans.specs.Provider.{Provider, state_of}
use Rattle.jm_keep.specs.Persisted.{IsPersisted}
use Rattle.jm_machine.specs.Machine.{State}
use Rattle.jm_tables.specs.Rows.{stored_in}
use Rattle.jm_tables.specs.Sound.{Serves}
use Rattle.jm_opening.specs.declared.judged.OpenFault.{OpenFault}
use Rattle.jm_opening.specs.declared.judged.OpenFault.TheVariants.{Store}
use Rattle.jm_loading.specs.Said.{IsSame, said}
use Rattle.jm_loading.proofs.Together.{persisted_same}
use Rattle.jm_load.specs.declared.decoding.Decoded.{Decoded}
use Rattle.jm_load.specs.declared.reading.TableRows.{TableRows}
use Rattle.jm_load.specs.Faults.{AreReadRows, IsFaultOf}
use Rattle.jm_load.specs.Loaded.{AreDecodedTo, AreRowsOf, IsDecodedOf, IsUnmade}
use Rattle.jm_load.proofs.Stored.{count_is, definition_is, due_is, record_is}
use Rattle.jm_load.proofs.Told.{read_rows, unmade}
use Rattle.jm_load.proofs.Unmade.{unmade_cause}

pub same_stored : (db : Trees) (rows : TableRows) (d : Decoded) → AreRowsOf db rows → IsDecodedOf rows d → d.damaged ≡ None → IsSame (said d.stations.items d.messages.items d.held.items d.delays.items) (stored_in db)
same_stored db rows d are is none =
    let later = subst (λ (o : Option OpenFault). AreDecodedTo rows d.held.items d.delays.items o) none is.later in
    record {
      definition = λ key. definition_is db key rows.stations.items d.stations.items are.stations is.stations;
      count = λ key place. count_is db key place rows.held.items d.held.items are.held later.0;
      message = λ place. record_is db place rows.messages.items d.messages.items are.messages is.messages;
      due = λ place. due_is db place rows.delays.items d.delays.items are.delays later.1;
    }

pub stored_loaded : (db : Trees) (rows : TableRows) (d : Decoded) (state : State) → AreRowsOf db rows → IsDecodedOf rows d → d.damaged ≡ None → IsPersisted state (said d.stations.items d.messages.items d.held.items d.delays.items)
    → IsPersisted state (stored_in db)
stored_loaded db rows d state are is none h = persisted_same state _ _ h (same_stored db rows d are is none)

-- so it is where the rows were made a core, and no row is damaged
pub loaded_ok : (db : Trees) (rows : TableRows) (d : Decoded) (r : Result Provider OpenFault) → AreRowsOf db rows → IsDecodedOf rows d → OnOk r (d.damaged ≡ None)
    → IfOk r (λ core. IsPersisted (state_of core) (said d.stations.items d.messages.items d.held.items d.delays.items)) → IfOk r (λ core. IsPersisted (state_of core) (stored_in db))
loaded_ok db rows d (Ok core) are is whole h = stored_loaded db rows d (state_of core) are is whole h
loaded_ok db rows d (Err fault) are is whole h = tt

-- and each row by itself is one that a store may have
pub read_ok : {A : Type 0} (db : Database) (rows : TableRows) (d : Decoded) (r : Result A OpenFault) → Serves db → AreRowsOf db.trees rows → IsDecodedOf rows d → OnOk r (d.damaged ≡ None) → OnOk r (AreReadRows db.trees)
read_ok db rows d (Ok core) s are is none =
    let later = subst (λ (o : Option OpenFault). AreDecodedTo rows d.held.items d.delays.items o) none is.later in
    read_rows db s rows are d.stations.items d.messages.items is.stations is.messages d.held.items d.delays.items later.0 later.1
read_ok db rows d (Err fault) s are is none = tt

-- where they were not, the first fault of the database is told
pub unmade_err : {A : Type 0} (db : Database) (rows : TableRows) (d : Decoded) (r : Result A OpenFault) → Serves db → AreRowsOf db.trees rows → IsDecodedOf rows d
    → IfErr r (IsUnmade d.stations.items d.messages.items d.held.items d.delays.items d.damaged) → IfErr r (IsFaultOf db.trees)
unmade_err db rows d (Ok value) s are is h = tt
unmade_err db rows d (Err fault) s are is h = unmade db s rows are d.stations.items d.messages.items is.stations is.messages d.held.items d.delays.items d.damaged is.later fault h

-- and it is not told as Store
pub unmade_cause_err : {A : Type 0} (rows : TableRows) (d : Decoded) (Cause : Type 0) (r : Result A OpenFault) → IsDecodedOf rows d → IfErr r (IsUnmade d.stations.items d.messages.items d.held.items d.delays.items d.damaged) → IfErr r (λ fault. fault ≡ Store → Cause)
unmade_cause_err rows d Cause (Ok value) is h = tt
unmade_cause_err rows d Cause (Err fault) is h = unmade_cause rows d.stations.items d.messages.items d.held.items d.delays.items d.damaged fault Cause is.later h
