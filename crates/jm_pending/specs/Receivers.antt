-- Whom the rows of a subscription are out to, as far as it is known.
use Rattle.std.specs.Prelude.{◌≡◌, Bool, true, ◌||◌, List, All}
use Rattle.jm_machine.specs.declared.state.RowState.{RowState}
use Rattle.jm_machine.specs.Rows.{waits, goes_out}
use Rattle.jm_machine.specs.Machine.{of_number}
use Rattle.jm_lane.specs.declared.row.Row.{Row}
use Rattle.jm_pending.specs.declared.receivers.Receivers.{Receivers}
use Rattle.jm_pending.specs.declared.receivers.Receivers.TheVariants.{Nobody, One, Any}

-- a row in that state waits, or is out to one of those
abbrev pub is_known : Receivers → RowState → Bool
is_known Nobody state = waits state
is_known (One s c) state = waits state || goes_out (of_number s c) state
is_known Any state = true

-- each row waits, or is out to one of those
abbrev pub AreKnown : Receivers → List Row → Type 0
AreKnown receivers rows = All (λ (r : Row). is_known receivers r.state ≡ true) rows
