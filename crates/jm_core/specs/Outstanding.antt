-- Rows that are out: each is out to a session that is open.
use Rattle.std.specs.Prelude.{◌≡◌, ℕ, true, List, [], ◌∷◌, is_some}
use Rattle.jm_machine.specs.declared.state.RowState.{RowState}
use Rattle.jm_machine.specs.declared.state.RowState.TheVariants.{Waiting, Out}
use Rattle.jm_machine.specs.declared.state.PlacedRow.{PlacedRow}
use Rattle.jm_machine.specs.declared.state.Station.{Station}
use Rattle.jm_machine.specs.Life.{Life, mode_of}
use Rattle.jm_machine.specs.Machine.{State}

-- what is out is out to a session that is open
abbrev pub IsOutToOpen : Life → RowState → Type 0
IsOutToOpen life Waiting = Unit {0}
IsOutToOpen life (Out s c) = is_some (mode_of life s) ≡ true

-- each row that is out is
abbrev pub AllOutToOpen : Life → List PlacedRow → Type 0
AllOutToOpen life [] = Unit {0}
AllOutToOpen life (x ∷ rows) = IsOutToOpen life x.row.state × AllOutToOpen life rows

-- each row of each subscription is
abbrev pub HoldsOutToOpen : Life → List Station → Type 0
HoldsOutToOpen life [] = Unit {0}
HoldsOutToOpen life (x ∷ stations) = AllOutToOpen life x.rows × HoldsOutToOpen life stations

-- each row of each queue is
abbrev pub QueuesOutToOpen : Life → (List ℕ → List PlacedRow) → Type 0
QueuesOutToOpen life queues = (name : List ℕ) → AllOutToOpen life (queues name)

-- each row of each subscription and of each queue is
pub record AreOutToOpen (state : State) : Type 0 where
  pub stations : HoldsOutToOpen state.life state.stations
  pub queues : QueuesOutToOpen state.life state.queues
