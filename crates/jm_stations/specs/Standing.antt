-- Rows as they stand under a key, read without a copy, and which of them a reader finds.
use Rattle.std.specs.Prelude.{◌≡◌, ℕ, ◌≤◌, ◌<◌, nat_le, ◌==◌, ◌&&◌, Bool, true, false, List, length, Option, find, is_some, slice_index_or, MatchOption}
use Rattle.jm_dest.specs.declared.session.SessionId.{SessionId}
use Rattle.jm_machine.specs.declared.state.PlacedRow.{PlacedRow}
use Rattle.jm_machine.specs.Rows.{has_lapsed, is_out}
use Rattle.jm_pending.specs.Rows.{Held}
use Rattle.jm_lane.specs.Lanes.{is_at as is_at_here}
use Rattle.jm_stations.specs.declared.standing.Standing.{Standing}
use Rattle.jm_stations.specs.Backlogs.{Backlog}

-- the row that stands there, with its message at its place
abbrev pub row_of : Standing → PlacedRow
row_of s = record { place = s.place; row = record { message = s.message.now; count = s.count; state = s.state } }

-- the row is at that place
abbrev pub is_at : ℕ → PlacedRow → Bool
is_at place x = x.place == place

-- the row is at that place or at a higher one
abbrev pub is_from : ℕ → PlacedRow → Bool
is_from place x = nat_le place x.place

-- the row has lapsed, and is at that place or at a higher one
abbrev pub lapsed_from : ℕ → ℕ → PlacedRow → Bool
lapsed_from place now x = is_from place x && has_lapsed now x.row

-- the row is out through a consumer that passes, and is at that place or at a higher one
abbrev pub out_from : ℕ → (SessionId → ℕ → Bool) → PlacedRow → Bool
out_from place p x = is_from place x && is_out p x.row

-- a row stands at the place
abbrev pub holds : ℕ → Backlog → Bool
holds place b = is_some (find (is_at place) b.rows)

-- a row of a list stands at the place
abbrev pub has_row : ℕ → Held → Bool
has_row place h = is_some (find (is_at_here place) h.rows)

-- the first index from that one on whose element passes
pub record IsFirst {X : Type 0} (p : X → Bool) (from : ℕ) (xs : List X) (i : ℕ) : Type 0 where
  pub start : from ≤ i
  pub within : i < length xs
  pub pass : (d : X) → p (slice_index_or xs i d) ≡ true
  pub before : (k : ℕ) (d : X) → from ≤ k → k < i → p (slice_index_or xs k d) ≡ false

-- no element passes from that index on
abbrev pub IsNone : {X : Type 0} → (X → Bool) → ℕ → List X → Type 0
IsNone {X} p from xs = (k : ℕ) (d : X) → from ≤ k → k < length xs → p (slice_index_or xs k d) ≡ false

-- the first such index, where there is one
abbrev pub IsFirstOf : {X : Type 0} → (X → Bool) → ℕ → List X → Option ℕ → Type 0
IsFirstOf p from xs o = MatchOption o (IsNone p from xs) (IsFirst p from xs)
