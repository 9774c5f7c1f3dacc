-- Many lists of rows over one table.
use Rattle.std.specs.Prelude.{◌≡◌, ℕ, ◌+◌, ◌==◌, if◌then◌else◌, List, sum_by}
use Rattle.jm_lane.specs.declared.row.Row.{Row}
use Rattle.jm_lane.specs.Holders.{Messages, holders_of, rows_at}

-- how many rows of all lists are at a place
abbrev pub all_at : ℕ → List (List Row) → ℕ
all_at p lists = sum_by (λ rows. rows_at p rows) lists

-- each place has as many holders as rows of all lists
pub record IsCounted (t : Messages) (lists : List (List Row)) : Type 0 where
  pub each : (p : ℕ) → holders_of t p ≡ all_at p lists

-- the same, but for the publication that is under way, which holds its message too
pub record IsCountedBeside (t : Messages) (place : ℕ) (lists : List (List Row)) : Type 0 where
  pub each : (p : ℕ) → holders_of t p ≡ all_at p lists + (if p == place then 1 else 0)
