-- How many rows subscriptions hold.
use Rattle.std.specs.Prelude.{◌≡◌, ◌≤◌, ℕ, true, List, [], ◌∷◌, length}
use Rattle.jm_machine.specs.declared.state.Station.{Station}
use Rattle.jm_machine.specs.Machine.{is_limited}

-- the subscription holds at most so many rows, waiting and out, where it is not durable
abbrev pub IsWithin : ℕ → Station → Type 0
IsWithin limit x = is_limited x.key ≡ true → length x.rows ≤ limit

-- each does
abbrev pub AllWithin : ℕ → List Station → Type 0
AllWithin limit [] = Unit {0}
AllWithin limit (x ∷ stations) = IsWithin limit x × AllWithin limit stations
