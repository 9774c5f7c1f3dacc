-- Entries, as steps of the machine.
use Rattle.std.proofs.Common.{◌≡◌, List, [], ◌∷◌, Ok}
use Rattle.std.specs.Prelude.{MatchBool, if◌then◌else◌}
use Rattle.jm_machine.specs.declared.call.Who.TheVariants.{Session}
use Rattle.jm_machine.specs.declared.call.Call.TheVariants.{Publish, Commit, Ask}
use Rattle.jm_machine.specs.declared.answer.Answer.TheVariants.{Done}
use Rattle.jm_machine.specs.declared.entry.Entry.{Entry}
use Rattle.jm_machine.specs.declared.entry.Entry.TheVariants.{Asked, Sent, Committed}
use Rattle.jm_machine.specs.Life.{mode_of}
use Rattle.jm_machine.specs.Machine.{State, is_transacted, reply, step}
use Rattle.jm_machine.specs.Entries.{pending}

-- the machine after an entry, the entries before it being listed newest first: a message of a transacted session waits for
-- the commit
unfoldable pub state_after_entry : State → List Entry → Entry → State
state_after_entry state before (Asked who request told) = step state who (Ask request)
state_after_entry state before (Sent m) = if is_transacted (mode_of state.life m.sender.session) then state else step state (Session m.sender.session) (Publish (m ∷ []))
state_after_entry state before (Committed s) = step state (Session s) (Commit (pending s before))

-- an entry's reply is the machine's
abbrev pub Replied : State → List Entry → Entry → Type 0
Replied state before (Asked who request told) = told ≡ reply state who (Ask request)
Replied state before (Sent m) = MatchBool (is_transacted (mode_of state.life m.sender.session)) (Unit {0}) (reply state (Session m.sender.session) (Publish (m ∷ [])) ≡ Ok Done)
Replied state before (Committed s) = reply state (Session s) (Commit (pending s before)) ≡ Ok Done

-- the replies of a list of entries are the machine's
abbrev pub EntriesFit : State → List Entry → List Entry → Type 0
EntriesFit state before [] = Unit {0}
EntriesFit state before (e ∷ entries) = Replied state before e × EntriesFit (state_after_entry state before e) (e ∷ before) entries

-- the state after a list of entries
abbrev pub state_at_end : State → List Entry → List Entry → State
state_at_end state before [] = state
state_at_end state before (e ∷ entries) = state_at_end (state_after_entry state before e) (e ∷ before) entries

-- the entries before what follows a list of them, newest first
abbrev pub before_by : List Entry → List Entry → List Entry
before_by before [] = before
before_by before (e ∷ entries) = before_by (e ∷ before) entries
