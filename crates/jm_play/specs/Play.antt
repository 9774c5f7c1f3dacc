-- What a run of a scenario prints (ours).
use Rattle.std.specs.Prelude.{◌≡◌, ◌≢◌, ℕ, Bool, true, false, List, Option, Some, None, Result, Err, IsUtf8, if◌then◌else◌}
use Rattle.std.specs.List.{list_any}
use Rattle.jm_base.specs.declared.refusal.Refusal.{Refusal}
use Rattle.jm_base.specs.declared.refusal.Refusal.TheVariants.{Memory, Store}
use Rattle.jm_machine.specs.Client.{Progress, begun, RunOwed}
use Rattle.jm_machine.specs.Machine.{new_core}
use Rattle.jm_machine.specs.declared.answer.Answer.{Answer}
use Rattle.jm_machine.specs.declared.call.ClientCall.{ClientCall}
use Rattle.jm_scenario.specs.Calls.{Spells, SpellsNone}
use Rattle.jm_scenario.specs.Items.{calls_of, replies_with_marks}
use Rattle.jm_scenario.specs.Lines.{lines}
use Rattle.jm_scenario.specs.declared.item.Item.{Item}
use Rattle.jm_scenario.specs.declared.scenario.Scenario.{Scenario}
use Rattle.jm_scenario.specs.declared.scenario.ScenarioFault.{ScenarioFault}
use Rattle.jm_scenario.specs.declared.scenario.ScenarioFault.TheVariants as refused
use Rattle.jm_play.specs.declared.fault.Fault.{Fault}
use Rattle.jm_play.specs.declared.fault.Fault.TheVariants as fault
use Rattle.jm_play.specs.declared.source.Source.{Source}
use Rattle.jm_play.specs.Source.{GivesAll, IsUnreadable, has_failed}

-- the bytes are a text that spells that scenario
abbrev pub SpellsScenario : List ℕ → Scenario → Type 0
SpellsScenario bytes scenario = IsUtf8 bytes × Spells bytes scenario

-- why bytes spell no scenario: they are no text, or one that spells none
abbrev pub RefusesBytes : List ℕ → ScenarioFault → Type 0
RefusesBytes bytes fault = (fault ≢ refused.Memory) × (IsUtf8 bytes → SpellsNone bytes)

-- why bytes that were read give no scenario: they spell none, or memory is refused
abbrev pub RefusesSpelled : List ℕ → Fault → Type 0
RefusesSpelled bytes (fault.Scenario refusal) = RefusesBytes bytes refusal
RefusesSpelled bytes fault.Memory = Unit {0}
RefusesSpelled bytes _ = ⊥

-- what a source gave, to its end, spells that scenario
abbrev pub GivesScenario : {R : Type 0} → (R → Option (List ℕ)) → Source R → Source R → Scenario → Type 0
GivesScenario remaining old new scenario = (bytes : List ℕ) × GivesAll remaining old new bytes × SpellsScenario bytes scenario

-- why a source gives no scenario: it cannot be read, what it gave spells none, or memory is refused before a read
-- failed
abbrev pub RefusesScenario : {R : Type 0} → (R → Option (List ℕ)) → Source R → Source R → Fault → Type 0
RefusesScenario remaining old new fault.File = IsUnreadable remaining old new
RefusesScenario remaining old new (fault.Scenario refusal) = (bytes : List ℕ) × GivesAll remaining old new bytes × RefusesBytes bytes refusal
RefusesScenario remaining old new fault.Memory = has_failed new ≡ has_failed old
RefusesScenario remaining old new _ = ⊥

-- how many rows a subscription may hold that is not durable: as many as are given, else as many as the scenario
-- says, else 100,000 (ours)
abbrev pub held_limit : Option ℕ → Option ℕ → ℕ
held_limit (Some given) own = given
held_limit None (Some own) = own
held_limit None None = 100000

-- the replies are those that a run owes to the calls, made in turn on a new provider in opening 1, with that limit of
-- held rows
abbrev pub IsRun : ℕ → List ClientCall → List (Result Answer Refusal) → Type 0
IsRun limit calls replies = (end : Progress) × RunOwed (begun (new_core 1 limit)) calls replies end

-- the provider found no memory for a call, or its store failed
abbrev pub is_shortage : Result Answer Refusal → Bool
is_shortage (Err Memory) = true
is_shortage (Err Store) = true
is_shortage _ = false

-- the exit status where those replies are printed
abbrev pub status_of : List (Result Answer Refusal) → ℕ
status_of replies = if list_any is_shortage replies then 3 else 0

-- the text is the lines of the replies to those items, and that is the exit status: the replies to the calls are those of a
-- run with that limit of held rows, and each fork and each join is answered Done at its place
abbrev pub Replies : ℕ → List Item → List ℕ → ℕ → Type 0
Replies limit items text status =
    (replies : List (Result Answer Refusal)) × IsRun limit (calls_of items) replies
    × (text ≡ lines (replies_with_marks items replies)) × (status ≡ status_of replies)

-- the same of the scenario that a source gives, with the limit that is given, if one is
abbrev pub Plays : {R : Type 0} → (R → Option (List ℕ)) → Option ℕ → Source R → Source R → List ℕ → ℕ → Type 0
Plays remaining held old new text status =
    (scenario : Scenario) × GivesScenario remaining old new scenario × Replies (held_limit held scenario.held) scenario.items text status
