-- Rows from a place on, and those of a lower place than the best so far.
use Rattle.std.specs.Prelude.{◌≡◌, ℕ, ◌<◌, ◌≤◌, nat_lt, Bool, true, false, ◌&&◌, List, Option, Some, None, slice_index_or}
use Rattle.jm_dest.specs.declared.session.SessionId.{SessionId}
use Rattle.jm_lane.specs.declared.row.Row.{Row}
use Rattle.jm_lane.specs.Rows.{is_from, is_waiting, is_expired, is_out}

-- a row has lapsed: it waits, and is expired at that moment
abbrev pub has_lapsed : ℕ → Row → Bool
has_lapsed now r = is_waiting r && is_expired now r

-- a row has lapsed, and is at that place or at a higher one
abbrev pub lapsed_from : ℕ → ℕ → Row → Bool
lapsed_from place now r = is_from place r && has_lapsed now r

-- a row is out through a consumer that passes, and is at that place or at a higher one
abbrev pub out_from : ℕ → (SessionId → ℕ → Bool) → Row → Bool
out_from place p r = is_from place r && is_out p r

-- a row is of a lower place than the other, where that is there
abbrev pub is_under : Option Row → Row → Bool
is_under None r = true
is_under (Some other) r = nat_lt r.place other.place

-- a row passes, and is of a lower place than the best so far
abbrev pub improves : Option Row → (Row → Bool) → Row → Bool
improves best p r = is_under best r && p r

-- none of the rows between two indexes passes
abbrev pub NoneBetween : (Row → Bool) → List Row → ℕ → ℕ → Type 0
NoneBetween p rows from end = (k : ℕ) (d : Row) → from ≤ k → k < end → p (slice_index_or rows k d) ≡ false
