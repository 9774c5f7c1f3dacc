-- Where a message is held: at most once in a queue, and at most once in a subscription.
use Rattle.std.specs.Prelude.{ℕ, ◌+◌, ◌≤◌, ◌==◌, ◌&&◌, Bool, true, List, [], ◌∷◌, if◌then◌else◌}
use Rattle.jm_header.specs.declared.content.Content.{Content}
use Rattle.jm_machine.specs.declared.state.PlacedRow.{PlacedRow}
use Rattle.jm_machine.specs.declared.state.Station.{Station}
use Rattle.jm_machine.specs.Machine.{State}
use Rattle.jm_machine.specs.Isolation.{Reached}

-- how many of the rows stand at the place and hold a message that passes
abbrev pub rows_holding : (Content → Bool) → ℕ → List PlacedRow → ℕ
rows_holding passes place [] = 0
rows_holding passes place (x ∷ rows) = if (x.place == place) && passes x.row.message then rows_holding passes place rows + 1 else rows_holding passes place rows

-- how many of the rows stand at the place, whatever message they hold
abbrev pub rows_at : ℕ → List PlacedRow → ℕ
rows_at place rows = rows_holding (λ m. true) place rows

-- at each place stands one row at most
abbrev pub OnePlace : List PlacedRow → Type 0
OnePlace rows = (place : ℕ) → rows_at place rows ≤ 1

-- and so in each subscription
abbrev pub EachOnePlace : List Station → Type 0
EachOnePlace [] = Unit {0}
EachOnePlace (x ∷ stations) = OnePlace x.rows × EachOnePlace stations

-- In every state that the provider reaches a message has at most one row in each queue and in each subscription, shared
-- ones too. A row waits, or is out to one session through one consumer; so no message of a queue, or of a shared
-- subscription, is out to two sessions, or waits while it is out.
abbrev pub OnePlaceEach : Type 0
OnePlaceEach = (state : State) → Reached state → ((name : List ℕ) → OnePlace (state.queues name)) × EachOnePlace state.stations
