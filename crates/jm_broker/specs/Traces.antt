-- What contracts see of a trace, and what one event more is.
use Rattle.std.specs.Prelude.{◌≡◌, ◌≤◌, ℕ, Bool, List, Result, IsTrue, MatchBool}
use Rattle.jm_base.specs.declared.refusal.Refusal.{Refusal}
use Rattle.jm_machine.specs.declared.answer.Answer.{Answer}
use Rattle.jm_machine.specs.declared.call.Step.{Step}
use Rattle.jm_machine.specs.declared.entry.Event.{Event}
use Rattle.jm_keep.specs.Persisted.{IsPersisted}
use Rattle.jm_keep.specs.Stored.{Stored}
use Rattle.jm_machine.specs.Entries.{is_not_made}
use Rattle.jm_machine.specs.Isolation.{IsLegal, after_events}
use Rattle.jm_machine.specs.Machine.{State, reply, step}

-- a trace that was handed out: the core before its first event, the position of that, and the events
pub record Segment (C : Type 0) : Type 0 where
  pub opening : C
  pub first : ℕ
  pub events : List Event

-- what lies under the lock: the core before the first event of the trace, the position of that, the events, the core after
-- them, the keeper, and how many parts of the ledger are left
pub record Seen (C K : Type 0) : Type 0 where
  pub opening : C
  pub first : ℕ
  pub events : List Event
  pub core : C
  pub keeper : K
  pub left : ℕ

-- what may stand under the lock: the events are legal from the opening on and end in the core's state, what a clean keeper has
-- stored is what is stored of that state, and a part of the ledger is left
abbrev pub IsHeld : {C K : Type 0} → (C → State) → (K → Bool) → (K → Stored) → Seen C K → Type 0
IsHeld state is_clean stored s =
    IsLegal (state s.opening) s.events
    × (state s.core ≡ after_events (state s.opening) s.events)
    × (IsTrue (is_clean s.keeper) → IsPersisted (state s.core) (stored s.keeper))
    × (1 ≤ s.left)

abbrev pub event : Step → Result Answer Refusal → Event
event p r = record { step = p; reply = r }

-- what the machine replies to the step
abbrev pub reply_to : State → Step → Result Answer Refusal
reply_to state p = reply state p.who p.call

-- the state after it
abbrev pub state_after : State → Step → State
state_after state p = step state p.who p.call

-- P, where the reply is one to a call that was made
abbrev pub OnMade : Result Answer Refusal → Type 0 → Type 0
OnMade r P = MatchBool (is_not_made r) (Unit {0}) P

-- P, where the call counts as not made: memory was wanted, or the keeper failed
abbrev pub OnNotMade : Result Answer Refusal → Type 0 → Type 0
OnNotMade r P = MatchBool (is_not_made r) P (Unit {0})
