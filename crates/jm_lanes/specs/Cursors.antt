-- The first row by place that passes, of those from a place on.
use Rattle.std.specs.Prelude.{◌≡◌, ◌≤◌, Bool, true, false, List, All, Contains, Option, MatchOption}
use Rattle.jm_lane.specs.declared.row.Row.{Row}

-- the row passes, is one of those, and none that passes is of a lower place
pub record IsLowest (p : Row → Bool) (rows : List Row) (r : Row) : Type 0 where
  pub pass : p r ≡ true
  pub there : Contains rows r
  pub first : All (λ (y : Row). p y ≡ true → r.place ≤ y.place) rows

-- the same of a row that may be absent, where none passes
abbrev pub IsLowestOf : (Row → Bool) → List Row → Option Row → Type 0
IsLowestOf p rows o = MatchOption o (All (λ y. p y ≡ false) rows) (IsLowest p rows)
