-- What the items of a scenario are told whose sessions call on threads of their own (ours).
use Rattle.std.specs.Prelude.{◌≡◌, ℕ, List, length, Result}
use Rattle.jm_base.specs.declared.refusal.Refusal.{Refusal}
use Rattle.jm_machine.specs.Machine.{State}
use Rattle.jm_machine.specs.declared.answer.Answer.{Answer}
use Rattle.jm_machine.specs.declared.entry.Event.{Event}
use Rattle.jm_audit.specs.declared.audit.FinishFault.{FinishFault}
use Rattle.jm_forks.specs.Forks.{parts, sessions_of}
use Rattle.jm_forks.specs.declared.part.Part.{Part}
use Rattle.jm_scenario.specs.Items.{calls_of}
use Rattle.jm_scenario.specs.declared.item.Item.{Item}
use Rattle.jm_seats.specs.Seats.{Seating}
use Rattle.jm_threaded.specs.Audits.{Audits}
use Rattle.jm_threaded.specs.Runs.{AreNew, PartsFit, passes_of}

-- the parts were made at the seats one after another, and told so, and the verdict is that of an audit of all passes beside a
-- trace, legal from its opening, that ends in that state. The lock hides which state the trace opens with
pub record RunsAudited {A : Type 0} (before : Seating) (parts : List Part) (replies : List (Result Answer Refusal)) (verdict : Result A FinishFault) (end : State) : Type 0 where
  pub after : Seating
  pub fit : PartsFit before parts replies after
  pub opening : State
  pub first : ℕ
  pub events : List Event
  pub audited : Audits opening first events (passes_of after) verdict end

-- the calls of the items were told so, one reply to each, in their order: the sessions that call have seats, none of which was open
-- yet, and the parts of the items were run there and audited
pub record PlaysThreaded {A : Type 0} (opening : ℕ) (items : List Item) (replies : List (Result Answer Refusal)) (verdict : Result A FinishFault) (end : State) : Type 0 where
  pub seats : Seating
  pub new : AreNew opening (sessions_of (parts items)) seats
  pub ran : RunsAudited seats (parts items) replies verdict end
  pub replied : length replies ≡ length (calls_of items)
