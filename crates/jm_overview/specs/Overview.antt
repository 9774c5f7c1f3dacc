-- What a provider shows of what it holds.
use Rattle.std.specs.Prelude.{ℕ, not, List, [], ◌∷◌, filter, length, Option, Some, None}
use Rattle.jm_machine.specs.declared.state.PlacedRow.{PlacedRow}
use Rattle.jm_machine.specs.Rows.{is_waiting}
use Rattle.jm_overview.specs.declared.overview.Oldest.{Oldest}
use Rattle.jm_overview.specs.declared.overview.KeyOverview.{KeyOverview}

-- how many of the rows wait
abbrev pub waiting_in : List PlacedRow → ℕ
waiting_in rows = length (filter (λ x. is_waiting x.row) rows)

-- how many are out
abbrev pub out_in : List PlacedRow → ℕ
out_in rows = length (filter (λ x. not (is_waiting x.row)) rows)

-- the oldest of rows that stand by place is the first
abbrev pub oldest_in : List PlacedRow → Option Oldest
oldest_in [] = None
oldest_in (x ∷ rows) = Some (record { place = x.place; sent = x.row.message.timestamp })

-- what stands there
abbrev pub overview : List PlacedRow → KeyOverview
overview rows = record { waiting = waiting_in rows; out = out_in rows; oldest = oldest_in rows }
