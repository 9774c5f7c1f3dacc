-- What a run of a scenario over a keeper prints (ours).
use Rattle.std.specs.Prelude.{◌≡◌, ℕ, List, Option, Result, Err, Contains}
use Rattle.jm_base.specs.declared.refusal.Refusal.{Refusal}
use Rattle.jm_base.specs.declared.refusal.Refusal.TheVariants.{Store}
use Rattle.jm_kept.specs.Runs.{HasFailed, RunKept}
use Rattle.jm_machine.specs.Client.{Progress, begun}
use Rattle.jm_machine.specs.Isolation.{AreIsolated}
use Rattle.jm_machine.specs.Machine.{State}
use Rattle.jm_machine.specs.declared.answer.Answer.{Answer}
use Rattle.jm_machine.specs.declared.call.ClientCall.{ClientCall}
use Rattle.jm_scenario.specs.Items.{calls_of, replies_with_marks}
use Rattle.jm_scenario.specs.Lines.{lines}
use Rattle.jm_scenario.specs.declared.item.Item.{Item}
use Rattle.jm_scenario.specs.declared.scenario.Scenario.{Scenario}
use Rattle.jm_play.specs.Play.{GivesScenario, status_of}
use Rattle.jm_play.specs.declared.source.Source.{Source}

-- the replies are those of a run of the calls over a keeper, from one state to another: each is the machine's, or counts as
-- not made, since memory was wanted or the keeper refused
abbrev pub IsRunOver : State → State → List ClientCall → List (Result Answer Refusal) → Type 0
IsRunOver before after calls replies = (end : Progress) × RunKept (begun before) calls replies end × (after ≡ end.state)

-- where one of the replies is that the store refused, the keeper has failed: by its counts of faults before and after
abbrev pub TellsFailure : ℕ → ℕ → List (Result Answer Refusal) → Type 0
TellsFailure faults_before faults_after replies = Contains replies (Err Store) → HasFailed faults_before faults_after

-- the text is the lines of the replies to those items, and that is the exit status: the replies to the calls are those of a
-- run over a keeper, and are isolated, and each fork and each join is answered Done at its place
abbrev pub RepliesOver : State → State → ℕ → ℕ → List Item → List ℕ → ℕ → Type 0
RepliesOver before after faults_before faults_after items text status =
    (replies : List (Result Answer Refusal)) × IsRunOver before after (calls_of items) replies × AreIsolated before (calls_of items) replies
    × TellsFailure faults_before faults_after replies × (text ≡ lines (replies_with_marks items replies)) × (status ≡ status_of replies)

-- the same of the scenario that a source gives
abbrev pub PlaysOver : {R : Type 0} → (R → Option (List ℕ)) → State → State → ℕ → ℕ → Source R → Source R → List ℕ → ℕ → Type 0
PlaysOver remaining before after faults_before faults_after old new text status =
    (scenario : Scenario) × GivesScenario remaining old new scenario
    × RepliesOver before after faults_before faults_after scenario.items text status
