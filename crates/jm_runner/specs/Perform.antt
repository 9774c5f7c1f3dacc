-- What the program does for its words (ours).
use Rattle.std.specs.Prelude.{◌≡◌, ◌⊎◌, ℕ, Bool, true, false, List, Option, None, Some, Result, Ok, Err}
use Rattle.sqlite.specs.Held.{Held, state}
use Rattle.sqlite.specs.declared.error.Error.{Error}
use Rattle.sqlite_trees.specs.declared.store.Store.{Ghosts}
use Rattle.jm_opening.specs.declared.outcome.Left.{Left}
use Rattle.jm_words.specs.declared.words.Words.{Words}
use Rattle.jm_words.specs.declared.words.Words.TheVariants.{Input, Run, Select, Lone}
use Rattle.jm_play.specs.Ending.{Ends}
use Rattle.jm_play.specs.Faults.{status_of_fault}
use Rattle.jm_play.specs.Play.{RefusesScenario, Plays}
use Rattle.jm_play.specs.declared.ending.Ending.{Ending}
use Rattle.jm_play.specs.declared.fault.Fault.{Fault}
use Rattle.jm_play.specs.declared.sink.Sink.{Sink}
use Rattle.jm_play.specs.declared.source.Source.{Source}
use Rattle.jm_runner.specs.Lone.{RefusesLone, TellsLone}
use Rattle.jm_runner.specs.Program.{fault_of_database}
use Rattle.jm_runner.specs.Select.{Picks, RefusesPick}
use Rattle.jm_runner.specs.Stored.{PlaysStored, RefusesStored}
use Rattle.jm_runner.specs.Threaded.{PlaysOnThreads, PlaysStoredOnThreads}

-- the ending of that fault
abbrev pub ending_of : Fault → Ending
ending_of fault = record { status = status_of_fault fault; fault = Some fault }

-- what opening a database may give: a connection, or an error in its place
abbrev pub Openings : Type 0 → Type 1
Openings S = Result (Held S) Error → Type 0

-- the database is not opened, which is told as the program's fault for an error that its opening may give; nothing is read, and
-- nothing is written
abbrev pub IsUnopened : {R S W : Type 0} → Openings S → Source R → Source R → Sink W → Sink W → Ending → Type 0
IsUnopened opens old new before after ending =
    (error : Error) × opens (Err error) × (ending ≡ ending_of (fault_of_database error)) × (new ≡ old) × (after ≡ before)

-- a scenario is played over the store of a connection that the opening of the database may give, which is let go then
abbrev pub IsStored : {R S W : Type 0} → Ghosts S → Openings S → (R → Option (List ℕ)) → (W → Option (List ℕ)) → Source R → Source R → Sink W → Sink W → Ending → Type 0
IsStored {R} {S} {W} g opens remaining contents old new before after ending =
    (conn : Held S) × opens (Ok conn) × (left : Left S)
    × Ends (PlaysStored g remaining (state g conn).committed.trees left old new) (RefusesStored g remaining conn left old new) contents before after ending

-- the same where its sessions call on threads of their own
abbrev pub IsStoredOnThreads : {R S W : Type 0} → Ghosts S → Openings S → (R → Option (List ℕ)) → (W → Option (List ℕ)) → Source R → Source R → Sink W → Sink W → Ending → Type 0
IsStoredOnThreads {R} {S} {W} g opens remaining contents old new before after ending =
    (conn : Held S) × opens (Ok conn) × (left : Left S)
    × Ends (PlaysStoredOnThreads g remaining (state g conn).committed.trees left old new) (RefusesStored g remaining conn left old new) contents before after ending

-- a run over the store in a database that is opened first, with threads or without
abbrev pub EndsOver : {R S W : Type 0} → Ghosts S → Openings S → (R → Option (List ℕ)) → (W → Option (List ℕ)) → Bool → Source R → Source R → Sink W → Sink W → Ending → Type 0
EndsOver g opens remaining contents false old new before after ending = IsUnopened opens old new before after ending ⊎ IsStored g opens remaining contents old new before after ending
EndsOver g opens remaining contents true old new before after ending = IsUnopened opens old new before after ending ⊎ IsStoredOnThreads g opens remaining contents old new before after ending

-- a run on a new provider, with threads or without
abbrev pub EndsAnew : {R W : Type 0} → (R → Option (List ℕ)) → (W → Option (List ℕ)) → Bool → Option ℕ → Source R → Source R → Sink W → Sink W → Ending → Type 0
EndsAnew remaining contents false held old new before after ending = Ends (Plays remaining held old new) (RefusesScenario remaining old new) contents before after ending
EndsAnew remaining contents true held old new before after ending = Ends (PlaysOnThreads remaining old new) (RefusesScenario remaining old new) contents before after ending

-- a run on a new provider, or over the store in the database of the name, where one is given, whose openings are those of that
-- name; with threads or without
abbrev pub RunEnds : {R S W : Type 0} → Ghosts S → (List ℕ → Openings S) → (R → Option (List ℕ)) → (W → Option (List ℕ)) → Option (List ℕ) → Bool → Option ℕ → Source R → Source R → Sink W → Sink W → Ending → Type 0
RunEnds g opens remaining contents None threads held old new before after ending = EndsAnew remaining contents threads held old new before after ending
RunEnds g opens remaining contents (Some name) threads held old new before after ending = EndsOver g (opens name) remaining contents threads old new before after ending

-- how the program ends for the words, with the databases that open so by their names, and the scenario that a source gives
abbrev pub Performs : {R S W : Type 0} → Ghosts S → (List ℕ → Openings S) → (R → Option (List ℕ)) → (W → Option (List ℕ)) → Words → Source R → Source R → Sink W → Sink W → Ending → Type 0
Performs g opens remaining contents Input old new before after ending = Ends (Plays remaining None old new) (RefusesScenario remaining old new) contents before after ending
Performs g opens remaining contents (Run file db threads held) old new before after ending = RunEnds g opens remaining contents db threads held old new before after ending
Performs g opens remaining contents (Select selector file) old new before after ending = Ends (Picks remaining selector old new) (RefusesPick remaining selector old new) contents before after ending
Performs g opens remaining contents (Lone file key) old new before after ending = Ends (TellsLone remaining key old new) (RefusesLone remaining key old new) contents before after ending
