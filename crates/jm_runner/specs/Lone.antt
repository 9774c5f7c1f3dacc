-- What `lone` prints: the replies of one subscription alone, with the numbers of their calls (ours).
use Rattle.std.specs.Prelude.{◌≡◌, ◌==◌, ◌++◌, ℕ, suc, not, Bool, true, false, List, [], ◌∷◌, length, Option, Some, None, Result, unwrap_or, slice_get, if◌then◌else◌}
use Rattle.jm_base.specs.declared.refusal.Refusal.{Refusal}
use Rattle.jm_dest.specs.declared.key.Key.{Key}
use Rattle.jm_machine.specs.Entries.{entry_of, entries_of, is_not_made}
use Rattle.jm_machine.specs.Isolation.{alone, is_unshared, keeps_numbers}
use Rattle.jm_machine.specs.Lone.{Scope, is_answered, scope_of}
use Rattle.jm_machine.specs.Machine.{new_core}
use Rattle.jm_machine.specs.declared.answer.Answer.{Answer}
use Rattle.jm_machine.specs.declared.call.ClientCall.{ClientCall}
use Rattle.jm_machine.specs.declared.call.ClientCall.TheVariants.{Ask, Send, CommitSession}
use Rattle.jm_scenario.specs.Items.{calls_of}
use Rattle.jm_scenario.specs.Key.{key_of_text}
use Rattle.jm_scenario.specs.Lines.{line}
use Rattle.jm_scenario.specs.declared.item.Item.{Item}
use Rattle.jm_scenario.specs.declared.item.Item.TheVariants.{Call, Fork, Join}
use Rattle.jm_scenario.specs.declared.scenario.Scenario.{Scenario}
use Rattle.jm_play.specs.Play.{GivesScenario, IsRun, RefusesScenario, held_limit, status_of}
use Rattle.jm_play.specs.declared.fault.KeyFault.{KeyFault}
use Rattle.jm_play.specs.declared.fault.KeyFault.TheVariants as cause
use Rattle.jm_play.specs.declared.fault.Fault.{Fault}
use Rattle.jm_play.specs.declared.fault.Fault.TheVariants as fault
use Rattle.jm_play.specs.declared.source.Source.{Source}

-- the call leaves an entry in the record of a run in that opening
abbrev pub leaves_entry : ℕ → ClientCall → Result Answer Refusal → Bool
leaves_entry opening call reply = not (length (entry_of opening call reply) == 0)

-- the numbers of the calls that leave an entry, the first item having that number: forks and joins count too
abbrev pub numbers_from : ℕ → ℕ → List Item → List (Result Answer Refusal) → List ℕ
numbers_from opening number [] replies = []
numbers_from opening number (Fork ∷ items) replies = numbers_from opening (suc number) items replies
numbers_from opening number (Join ∷ items) replies = numbers_from opening (suc number) items replies
numbers_from opening number (Call call ∷ items) [] = []
numbers_from opening number (Call call ∷ items) (reply ∷ replies) =
    if leaves_entry opening call reply then number ∷ numbers_from opening (suc number) items replies else numbers_from opening (suc number) items replies

-- the number at that place
abbrev pub number_at : List ℕ → ℕ → ℕ
number_at numbers place = unwrap_or (slice_get numbers place) 0

-- the line of a reply with the place of its entry, by the numbers of the entries' calls
abbrev pub line_at : List ℕ → ℕ × Result Answer Refusal → List ℕ
line_at numbers placed = line (number_at numbers placed.0) placed.1

-- the lines of such replies, in order
abbrev pub lines_at : List ℕ → List (ℕ × Result Answer Refusal) → List ℕ
lines_at numbers [] = []
lines_at numbers (placed ∷ replies) = line_at numbers placed ++ lines_at numbers replies

-- the lines of what the key's subscription answers alone, over the record of the run of the items' calls in opening 1 with
-- that limit of held rows
abbrev pub lines_alone : ℕ → Key → List Item → List (Result Answer Refusal) → List ℕ
lines_alone limit key items replies = lines_at (numbers_from 1 1 items replies) (alone key (new_core 1 limit) (entries_of 1 (calls_of items) replies))

-- the line of a reply that a run in opening 1 gave to the call of that number, where it is a call that the subscription
-- answers and counts as made
abbrev pub line_told : Scope → ℕ → ClientCall → Result Answer Refusal → List ℕ
line_told scope number (Ask who request) reply = if is_not_made reply then [] else (if is_answered scope who request then line number reply else [])
line_told scope number (Send s draft destination now) reply = []
line_told scope number (CommitSession s) reply = []

-- the lines of the replies to its calls, with their numbers, the first item having that number
abbrev pub lines_told : Scope → ℕ → List Item → List (Result Answer Refusal) → List ℕ
lines_told scope number [] replies = []
lines_told scope number (Fork ∷ items) replies = lines_told scope (suc number) items replies
lines_told scope number (Join ∷ items) replies = lines_told scope (suc number) items replies
lines_told scope number (Call call ∷ items) [] = []
lines_told scope number (Call call ∷ items) (reply ∷ replies) = line_told scope number call reply ++ lines_told scope (suc number) items replies

-- the lines of the replies that the run gave to the key's calls, in opening 1 with that limit of held rows
abbrev pub lines_of_key : ℕ → Key → List Item → List (Result Answer Refusal) → List ℕ
lines_of_key limit key items replies = lines_told (scope_of key (new_core 1 limit) (entries_of 1 (calls_of items) replies)) 1 items replies

-- where the numbers of the key's consumers name nothing else, what is told of the key is what the run told its sessions: the
-- law of isolation, of this run
abbrev pub IsOfRun : ℕ → Key → List Item → List (Result Answer Refusal) → List ℕ → Type 0
IsOfRun limit key items replies text = keeps_numbers key (new_core 1 limit) (entries_of 1 (calls_of items) replies) ≡ true → text ≡ lines_of_key limit key items replies

-- the key is that of an unshared subscription in the record of the run: in opening 1 with that limit of held rows, and by
-- what its entries name
abbrev pub is_unshared_in : ℕ → Key → List ClientCall → List (Result Answer Refusal) → Bool
is_unshared_in limit key calls replies = is_unshared key (new_core 1 limit) (entries_of 1 calls replies)

-- the text spells the key of an unshared subscription of that record
abbrev pub IsKey : ℕ → List ℕ → Key → List ClientCall → List (Result Answer Refusal) → Type 0
IsKey limit text key calls replies = (key_of_text text ≡ Some key) × (is_unshared_in limit key calls replies ≡ true)

-- the replies are those of a run of the scenario, with its own limit
abbrev pub IsRunOf : Scenario → List (Result Answer Refusal) → Type 0
IsRunOf scenario replies = IsRun (held_limit None scenario.held) (calls_of scenario.items) replies

-- what is printed is the lines of the key's subscription alone, over a run of the scenario that a source gives, which are
-- those of that run, and the exit status is that of the run
abbrev pub TellsLone : {R : Type 0} → (R → Option (List ℕ)) → List ℕ → Source R → Source R → List ℕ → ℕ → Type 0
TellsLone remaining spelled old new text status =
    (scenario : Scenario) × (replies : List (Result Answer Refusal)) × (key : Key)
    × GivesScenario remaining old new scenario × IsRunOf scenario replies
    × IsKey (held_limit None scenario.held) spelled key (calls_of scenario.items) replies
    × (text ≡ lines_alone (held_limit None scenario.held) key scenario.items replies)
    × IsOfRun (held_limit None scenario.held) key scenario.items replies text × (status ≡ status_of replies)

-- why a text gives no key: it spells none, or memory is refused
abbrev pub RefusesText : List ℕ → Fault → Type 0
RefusesText text (fault.Key cause.Syntax) = key_of_text text ≡ None
RefusesText text fault.Memory = Unit {0}
RefusesText text _ = ⊥

-- why a key gives no lines: it is none of an unshared subscription of the record, or memory is refused
abbrev pub RefusesKey : ℕ → Key → List ClientCall → List (Result Answer Refusal) → Fault → Type 0
RefusesKey limit key calls replies (fault.Key cause.NotUnshared) = is_unshared_in limit key calls replies ≡ false
RefusesKey limit key calls replies fault.Memory = Unit {0}
RefusesKey limit key calls replies _ = ⊥

-- the text spells no key, or the key that it spells is none of an unshared subscription of the record
abbrev pub HasKeyFault : ℕ → List ℕ → List ClientCall → List (Result Answer Refusal) → KeyFault → Type 0
HasKeyFault limit text calls replies cause.Syntax = key_of_text text ≡ None
HasKeyFault limit text calls replies cause.NotUnshared =
    (key : Key) × (key_of_text text ≡ Some key) × (is_unshared_in limit key calls replies ≡ false)

-- why nothing is told of a subscription: why the source gives no scenario, or why memory is refused; and where it gives
-- one, the fault of the key over a run of it
abbrev pub RefusesLone : {R : Type 0} → (R → Option (List ℕ)) → List ℕ → Source R → Source R → Fault → Type 0
RefusesLone remaining spelled old new (fault.Key cause) =
    (scenario : Scenario) × (replies : List (Result Answer Refusal))
    × GivesScenario remaining old new scenario × IsRunOf scenario replies
    × HasKeyFault (held_limit None scenario.held) spelled (calls_of scenario.items) replies cause
RefusesLone remaining spelled old new other = RefusesScenario remaining old new other
