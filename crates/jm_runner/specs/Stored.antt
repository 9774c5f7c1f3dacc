-- What a run of a scenario over a store prints, and what it leaves (ours).
use Rattle.std.specs.Prelude.{◌≡◌, ◌&&◌, ℕ, List, Option, Result, IsTrue}
use Rattle.sqlite.specs.Held.{Held, state}
use Rattle.sqlite.specs.Effect.{Database}
use Rattle.sqlite_trees.specs.Tree.{Trees}
use Rattle.sqlite_trees.specs.declared.store.Store.{Ghosts}
use Rattle.jm_base.specs.declared.refusal.Refusal.{Refusal}
use Rattle.jm_keep.specs.Persisted.{IsPersisted}
use Rattle.jm_machine.specs.Isolation.{AreIsolated}
use Rattle.jm_machine.specs.Machine.{State}
use Rattle.jm_machine.specs.declared.answer.Answer.{Answer}
use Rattle.jm_opening.specs.declared.judged.OpenFault.{OpenFault}
use Rattle.jm_opening.specs.declared.judged.OpenFault.TheVariants as cause
use Rattle.jm_opening.specs.declared.outcome.Left.{Left}
use Rattle.jm_opening.specs.declared.outcome.Left.TheVariants.{Settled, Shut}
use Rattle.jm_opening.specs.declared.found.Found.{Found}
use Rattle.jm_opening.specs.Opened.{IsFound, IsOpened, opening_of}
use Rattle.jm_scenario.specs.Items.{calls_of, replies_with_marks}
use Rattle.jm_scenario.specs.Lines.{lines}
use Rattle.jm_store.specs.Opened.{IsLeft}
use Rattle.jm_scenario.specs.declared.item.Item.{Item}
use Rattle.jm_scenario.specs.declared.scenario.Scenario.{Scenario}
use Rattle.jm_tables.specs.Rows.{stored_in}
use Rattle.jm_play.specs.Over.{IsRunOver}
use Rattle.jm_play.specs.Play.{GivesScenario, RefusesScenario, status_of}
use Rattle.jm_play.specs.declared.database.DatabaseFault.TheVariants as database
use Rattle.jm_play.specs.declared.fault.Fault.{Fault}
use Rattle.jm_play.specs.declared.fault.Fault.TheVariants as fault
use Rattle.jm_play.specs.declared.source.Source.{Source}

-- the program's fault for a store that is not opened
abbrev pub fault_of : OpenFault → Fault
fault_of (cause.Damaged table at) = fault.Database database.Damaged
fault_of (cause.WrongVersion n) = fault.Database (database.Version n)
fault_of cause.Exhausted = fault.Database database.Exhausted
fault_of cause.Memory = fault.Memory
fault_of cause.Store = fault.Database database.Failed

-- the store that is left is clean and open
abbrev pub IsCleanLeft : {S : Type 0} → Ghosts S → Left S → Type 0
IsCleanLeft g (Settled conn) = IsTrue ((state g conn).is_clean && (state g conn).is_open)
IsCleanLeft g (Shut store) = ⊥

-- while the store that is left is clean and open, it holds what is stored of that state
abbrev pub HoldsStored : {S : Type 0} → Ghosts S → State → Left S → Type 0
HoldsStored g after (Settled conn) = IsCleanLeft g (Settled conn) → IsPersisted after (stored_in (state g conn).now.trees)
HoldsStored g after (Shut store) = ⊥

-- what was committed was opened with the number of that state's opening, and what it held then is what is stored of the state
pub record IsLoaded (committed : Trees) (before : State) : Type 0 where
  pub found : Found
  pub database : Database
  pub same : database.trees ≡ committed
  pub is_found : IsFound found database
  pub number : before.opening ≡ opening_of found
  pub opened : Database
  pub is_opened : IsOpened found database opened
  pub stored : IsPersisted before (stored_in opened.trees)

-- while the store that is left is clean and open, the state was loaded from what was committed
abbrev pub WasLoaded : {S : Type 0} → Ghosts S → Trees → State → Left S → Type 0
WasLoaded g committed before left = IsCleanLeft g left → IsLoaded committed before

-- the text is the lines of the replies to those items over a store, from that state, and that is the exit status: each reply
-- to a call is the machine's, or counts as not made, they are isolated, and each fork and each join is answered Done at its
-- place; and the store that is left holds what is stored of the state that the calls lead to
abbrev pub RunsStored : {S : Type 0} → Ghosts S → State → Left S → List Item → List ℕ → ℕ → Type 0
RunsStored g before left items text status =
    (after : State) × (replies : List (Result Answer Refusal)) × IsRunOver before after (calls_of items) replies
    × AreIsolated before (calls_of items) replies × (text ≡ lines (replies_with_marks items replies)) × (status ≡ status_of replies) × HoldsStored g after left

-- the same from a state that was loaded from what was committed
abbrev pub RepliesStored : {S : Type 0} → Ghosts S → Trees → Left S → List Item → List ℕ → ℕ → Type 0
RepliesStored g committed left items text status =
    (before : State) × WasLoaded g committed before left × RunsStored g before left items text status

-- the same of the scenario that a source gives
abbrev pub PlaysStored : {R S : Type 0} → Ghosts S → (R → Option (List ℕ)) → Trees → Left S → Source R → Source R → List ℕ → ℕ → Type 0
PlaysStored g remaining committed left old new text status =
    (scenario : Scenario) × GivesScenario remaining old new scenario × RepliesStored g committed left scenario.items text status

-- the store is not opened or not loaded, which is told as that fault; what was committed stands, or is opened
abbrev pub RefusesStore : {S : Type 0} → Ghosts S → Trees → Left S → Fault → Type 0
RefusesStore g committed left told = (refused : OpenFault) × (told ≡ fault_of refused) × IsLeft g committed refused left

-- the fault is one of a store, which stands so; or memory was refused
abbrev pub IsFaultOfStore : {S : Type 0} → Ghosts S → Trees → Left S → Fault → Type 0
IsFaultOfStore g committed left (fault.Database refused) = RefusesStore g committed left (fault.Database refused)
IsFaultOfStore g committed left fault.Memory = Unit {0}
IsFaultOfStore g committed left _ = ⊥

-- why nothing is printed: the store is not opened, for a scenario that the source gives; memory is refused; or the source
-- gives no scenario, and the connection is handed back as it was
abbrev pub RefusesStored : {R S : Type 0} → Ghosts S → (R → Option (List ℕ)) → Held S → Left S → Source R → Source R → Fault → Type 0
RefusesStored g remaining conn left old new (fault.Database refused) =
    (scenario : Scenario) × GivesScenario remaining old new scenario × RefusesStore g (state g conn).committed.trees left (fault.Database refused)
RefusesStored g remaining conn left old new fault.Memory = RefusesScenario remaining old new fault.Memory
RefusesStored g remaining conn left old new other = RefusesScenario remaining old new other × (left ≡ Settled conn)
