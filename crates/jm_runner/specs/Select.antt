-- What `select` prints: the value of a selector over each send (ours).
use Rattle.std.specs.Prelude.{◌≡◌, ◌++◌, ◌+◌, ℕ, suc, List, [], ◌∷◌, Option, Some, None, Result, Ok, Err, codes, decimal, ◌⊎◌, MatchResult}
use Rattle.jm_base.specs.declared.refusal.Refusal.{Refusal}
use Rattle.jm_dest.specs.declared.destination.Destination.{Destination}
use Rattle.jm_dest.specs.declared.session.SessionId.{SessionId}
use Rattle.jm_eval.specs.Evaluation.{condition}
use Rattle.jm_eval.specs.Views.{view}
use Rattle.jm_eval.specs.declared.truth.Truth.{Truth}
use Rattle.jm_eval.specs.declared.truth.Truth.TheVariants as truths
use Rattle.jm_header.specs.Headers.{stamped}
use Rattle.jm_header.specs.declared.content.Content.{Content}
use Rattle.jm_header.specs.declared.content.Sender.{Sender}
use Rattle.jm_header.specs.declared.content.Settings.{Settings}
use Rattle.jm_machine.specs.declared.call.ClientCall.{ClientCall}
use Rattle.jm_machine.specs.declared.call.ClientCall.TheVariants.{Ask, Send, CommitSession}
use Rattle.jm_machine.specs.Client.{one_more}
use Rattle.jm_lexer.specs.declared.fault.SyntaxFault.{SyntaxFault}
use Rattle.jm_tree.specs.Parse.{parsed}
use Rattle.jm_tree.specs.declared.tree.Tree.{Tree}
use Rattle.jm_base.specs.Shown.{refusal_name}
use Rattle.jm_play.specs.Play.{GivesScenario, RefusesScenario}
use Rattle.jm_scenario.specs.declared.item.Item.{Item}
use Rattle.jm_scenario.specs.declared.item.Item.TheVariants.{Call, Fork, Join}
use Rattle.jm_scenario.specs.declared.scenario.Scenario.{Scenario}
use Rattle.jm_play.specs.declared.fault.Fault.{Fault}
use Rattle.jm_play.specs.declared.fault.Fault.TheVariants as faults
use Rattle.jm_play.specs.declared.source.Source.{Source}

-- how many sends of each session were stamped
abbrev pub Sent : Type 0
Sent = SessionId → ℕ

-- a session of opening 1, which sends
abbrev pub sender : SessionId → Sender
sender session = record { opening = 1; session = session }

-- the message of the session's next send, or why it is not stamped
abbrev pub stamp_next : Sent → SessionId → Settings → Destination → ℕ → Result Content Refusal
stamp_next sent session draft destination now = stamped draft destination (sender session) (sent session + 1) now

-- a send that is stamped is counted; another leaves its number free
abbrev pub counted : SessionId → Result Content Refusal → Sent → Sent
counted session (Ok message) sent = one_more session sent
counted session (Err refusal) sent = sent

-- the value of a selector over a message, as a condition; a selector without tokens is TRUE
abbrev pub truth : Option Tree → Content → Truth
truth None message = truths.True
truth (Some tree) message = condition (view message) tree

-- a truth value as it is printed
abbrev pub truth_name : Truth → List ℕ
truth_name truths.True = codes "TRUE"
truth_name truths.False = codes "FALSE"
truth_name truths.Unknown = codes "UNKNOWN"

-- what is printed of a send: the value of the selector, or why the message is not stamped
abbrev pub verdict : Option Tree → Result Content Refusal → List ℕ
verdict selector (Ok message) = truth_name (truth selector message)
verdict selector (Err refusal) = codes "refused " ++ refusal_name refusal

-- the line of a send: the number of its item, a space, what is printed of it and a line feed
abbrev pub send_line : Option Tree → ℕ → Result Content Refusal → List ℕ
send_line selector number stamp = decimal number ++ codes " " ++ verdict selector stamp ++ codes "\n"

-- the line of a call: of a send its line, of another call nothing
abbrev pub call_line : Option Tree → Sent → ℕ → ClientCall → List ℕ
call_line selector sent number (Ask who request) = []
call_line selector sent number (Send session draft destination now) =
    send_line selector number (stamp_next sent session draft destination now)
call_line selector sent number (CommitSession session) = []

-- the counts after a call
abbrev pub sent_after : Sent → ClientCall → Sent
sent_after sent (Ask who request) = sent
sent_after sent (Send session draft destination now) =
    counted session (stamp_next sent session draft destination now) sent
sent_after sent (CommitSession session) = sent

-- the line of an item: of a call its line, of a fork or a join nothing
abbrev pub item_line : Option Tree → Sent → ℕ → Item → List ℕ
item_line selector sent number (Call call) = call_line selector sent number call
item_line selector sent number Fork = []
item_line selector sent number Join = []

-- the counts after an item
abbrev pub sent_behind : Sent → Item → Sent
sent_behind sent (Call call) = sent_after sent call
sent_behind sent Fork = sent
sent_behind sent Join = sent

-- the lines of items in order, the first of that number
abbrev pub lines_from : Option Tree → Sent → ℕ → List Item → List ℕ
lines_from selector sent number [] = []
lines_from selector sent number (one ∷ items) =
    item_line selector sent number one ++ lines_from selector (sent_behind sent one) (suc number) items

-- the lines of all sends, numbered by their items from 1: forks and joins count too
abbrev pub lines : Option Tree → List Item → List ℕ
lines selector items = lines_from selector (λ session. 0) 1 items

-- the text is read as a selector, and what is printed is the lines of the sends of the scenario that a source gives, with exit status 0
abbrev pub Picks : {R : Type 0} → (R → Option (List ℕ)) → List ℕ → Source R → Source R → List ℕ → ℕ → Type 0
Picks remaining selector old new text status =
    (tree : Option Tree) × (scenario : Scenario)
    × (parsed selector ≡ Ok tree) × GivesScenario remaining old new scenario × (text ≡ lines tree scenario.items) × (status ≡ 0)

-- why a selector is refused: the fault that its text has, or memory is refused
abbrev pub RefusesSelector : SyntaxFault → Fault → Type 0
RefusesSelector refused fault = (fault ≡ faults.Memory) ⊎ (fault ≡ faults.Selector refused.cause refused.at)

-- why nothing is picked: the fault of the selector's text, of which nothing is read; and where it has none, why the source gives no scenario
abbrev pub RefusesPick : {R : Type 0} → (R → Option (List ℕ)) → List ℕ → Source R → Source R → Fault → Type 0
RefusesPick remaining selector old new fault =
    MatchResult (parsed selector) (λ _. RefusesScenario remaining old new fault) (λ refused. (new ≡ old) × RefusesSelector refused fault)
