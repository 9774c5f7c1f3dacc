-- What a run of a scenario prints whose sessions call on threads of their own (ours).
use Rattle.std.specs.Prelude.{◌≡◌, ◌&&◌, ℕ, List, Option, Result, Err, IsTrue}
use Rattle.sqlite_trees.specs.Tree.{Trees}
use Rattle.sqlite_trees.specs.declared.store.Store.{Ghosts}
use Rattle.jm_audit.specs.declared.audit.FinishFault.{FinishFault}
use Rattle.jm_audit.specs.declared.audit.FinishFault.TheVariants as audit
use Rattle.jm_base.specs.declared.refusal.Refusal.{Refusal}
use Rattle.jm_machine.specs.Machine.{State}
use Rattle.jm_machine.specs.declared.answer.Answer.{Answer}
use Rattle.jm_opening.specs.declared.outcome.Left.{Left}
use Rattle.jm_scenario.specs.Items.{replies_with_marks}
use Rattle.jm_scenario.specs.Lines.{lines}
use Rattle.jm_scenario.specs.declared.item.Item.{Item}
use Rattle.jm_scenario.specs.declared.scenario.Scenario.{Scenario}
use Rattle.jm_threaded.specs.Threaded.{PlaysThreaded}
use Rattle.jm_play.specs.Play.{GivesScenario, status_of}
use Rattle.jm_play.specs.declared.source.Source.{Source}
use Rattle.jm_runner.specs.Stored.{HoldsStored, WasLoaded}

-- the exit status of a run whose calls are audited at its end: 3 where memory was wanted for the audit, and else the one that it
-- would have without
abbrev pub audited_status : {A : Type 0} → Result A FinishFault → ℕ → ℕ
audited_status (Err audit.Memory) status = 3
audited_status _ status = status

-- the text is the lines of the replies to those items, whose sessions called on threads of their own, in that opening, up to that
-- state, and that is the exit status: each reply stands where its call stands among the items, each fork and each join is
-- answered Done at its place, and all calls were audited
abbrev pub RepliesThreaded : ℕ → State → List Item → List ℕ → ℕ → Type 0
RepliesThreaded opening after items text status =
    (replies : List (Result Answer Refusal)) × (verdict : Result (Unit {0}) FinishFault) × PlaysThreaded opening items replies verdict after
    × (text ≡ lines (replies_with_marks items replies)) × (status ≡ audited_status verdict (status_of replies))

-- the same of the scenario that a source gives, in opening 1
abbrev pub PlaysOnThreads : {R : Type 0} → (R → Option (List ℕ)) → Source R → Source R → List ℕ → ℕ → Type 0
PlaysOnThreads remaining old new text status =
    (scenario : Scenario) × GivesScenario remaining old new scenario × (after : State) × RepliesThreaded 1 after scenario.items text status

-- the same over a store, in the opening of that state; and the store that is left holds what is stored of the state that the
-- calls lead to
abbrev pub RunsStoredOnThreads : {S : Type 0} → Ghosts S → State → Left S → List Item → List ℕ → ℕ → Type 0
RunsStoredOnThreads g before left items text status =
    (after : State) × RepliesThreaded before.opening after items text status × HoldsStored g after left

-- the same from a state that was loaded from what was committed
abbrev pub RepliesStoredOnThreads : {S : Type 0} → Ghosts S → Trees → Left S → List Item → List ℕ → ℕ → Type 0
RepliesStoredOnThreads g committed left items text status =
    (before : State) × WasLoaded g committed before left × RunsStoredOnThreads g before left items text status

-- the same of the scenario that a source gives
abbrev pub PlaysStoredOnThreads : {R S : Type 0} → Ghosts S → (R → Option (List ℕ)) → Trees → Left S → Source R → Source R → List ℕ → ℕ → Type 0
PlaysStoredOnThreads g remaining committed left old new text status =
    (scenario : Scenario) × GivesScenario remaining old new scenario × RepliesStoredOnThreads g committed left scenario.items text status
