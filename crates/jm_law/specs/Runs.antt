-- The steps that a run of clients' calls takes.
use Rattle.std.specs.Prelude.{◌≡◌, List, [], ◌∷◌, ◌++◌, Result, if◌then◌else◌}
use Rattle.jm_base.specs.declared.refusal.Refusal.{Refusal}
use Rattle.jm_machine.specs.declared.call.Who.TheVariants.{Session}
use Rattle.jm_machine.specs.declared.call.Call.TheVariants.{Ask, Publish, Commit}
use Rattle.jm_machine.specs.declared.call.ClientCall.{ClientCall}
use Rattle.jm_machine.specs.declared.call.Step.{Step}
use Rattle.jm_machine.specs.declared.answer.Answer.{Answer}
use Rattle.jm_machine.specs.declared.entry.Entry.{Entry}
use Rattle.jm_machine.specs.declared.entry.Entry.TheVariants.{Asked, Sent, Committed}
use Rattle.jm_machine.specs.Life.{Life, mode_of}
use Rattle.jm_machine.specs.Machine.{State, is_transacted}
use Rattle.jm_machine.specs.Entries.{entries_of, life_after_entry, pending}
use Rattle.jm_machine.specs.Client.{Progress, begun, RepliesFit}
use Rattle.jm_machine.specs.Queues.{state_after}

-- the steps of an entry, with the connections and sessions before it and the entries before it, newest first: a request is
-- one step; a message is a publication, but in a transacted session it takes no step; and a commit publishes what its
-- session sent in its transaction
abbrev pub entry_steps : Life → List Entry → Entry → List Step
entry_steps life before (Asked who request told) = record { who = who; call = Ask request } ∷ []
entry_steps life before (Sent m) = if is_transacted (mode_of life m.sender.session) then [] else record { who = Session m.sender.session; call = Publish (m ∷ []) } ∷ []
entry_steps life before (Committed s) = record { who = Session s; call = Commit (pending s before) } ∷ []

-- the steps of a list of entries
abbrev pub steps_of : Life → List Entry → List Entry → List Step
steps_of life before [] = []
steps_of life before (e ∷ entries) = entry_steps life before e ++ steps_of (life_after_entry life e) (e ∷ before) entries

-- The steps of the record of a run lead from its opening to its end. So what is said of lists of steps is said of runs: that
-- queues and subscriptions keep what they held and what came to them.
abbrev pub RunsAreSteps : Type 0
RunsAreSteps =
    (opening : State) (calls : List ClientCall) (replies : List (Result Answer Refusal)) (end : Progress) →
    RepliesFit (begun opening) calls replies end →
    end.state ≡ state_after opening (steps_of opening.life [] (entries_of opening.opening calls replies))
