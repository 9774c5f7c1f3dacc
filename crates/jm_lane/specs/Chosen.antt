-- Rows of which the messages pass, and where one stands in its lane.
use Rattle.std.specs.Prelude.{◌≡◌, ℕ, ◌+◌, ◌<◌, ◌≤◌, ◌==◌, Bool, true, false, ◌&&◌, List, All, take, Option, Some, None, option_map, length, slice_index_or, if◌then◌else◌}
use Rattle.jm_header.specs.declared.content.Content.{Content}
use Rattle.jm_lane.specs.declared.spot.Spot.{Spot}
use Rattle.jm_lane.specs.declared.row.Row.{Row}
use Rattle.jm_lane.specs.Holders.{Messages, message_of}
use Rattle.jm_lane.specs.Lanes.{is_sooner}
use Rattle.jm_lane.specs.Rows.{is_ready, is_waiting}

-- a message is there, and passes
abbrev pub is_passed : (Content → Bool) → Option Content → Bool
is_passed p None = false
is_passed p (Some m) = p m

-- the table has the row's message, and it passes
abbrev pub passes : (Content → Bool) → Messages → Row → Bool
passes p t r = is_passed p (message_of t r.place)

-- a row may be delivered, and its message passes
abbrev pub is_choice : (Content → Bool) → Messages → ℕ → Row → Bool
is_choice p t now r = is_ready now r && passes p t r

-- a row goes before the other, where that is there
abbrev pub goes_before : Option Row → Row → Bool
goes_before None r = true
goes_before (Some other) r = is_sooner r other

-- a row goes before the best so far, and may be delivered
abbrev pub is_ready_before : Option Row → ℕ → Row → Bool
is_ready_before best now r = goes_before best r && is_ready now r

-- a row goes before the best so far, may be delivered, and its message passes
abbrev pub is_better : Option Row → (Content → Bool) → Messages → ℕ → Row → Bool
is_better best p t now r = goes_before best r && is_choice p t now r

-- the row of a spot, where one is there
abbrev pub row_of : Option Spot → Option Row
row_of spot = option_map (λ (s : Spot). s.row) spot

-- how many of the first rows do not wait once the row there does not
abbrev pub low_after : Spot → ℕ
low_after s = if s.low == s.index then s.index + 1 else s.low

-- the row stands there among those of its lane, of which none waits before `low`
pub record StandsIn (rows : List Row) (s : Spot) : Type 0 where
  pub within : s.index < length rows
  pub row : (d : Row) → slice_index_or rows s.index d ≡ s.row
  pub low : s.low ≤ s.index
  pub before : All (λ r. is_waiting r ≡ false) (take s.low rows)
