-- How rows stand in lanes, once these are made: three for each priority, from 9 down, each by place.
use Rattle.std.specs.Prelude.{◌≡◌, ℕ, ◌+◌, ◌<◌, ◌≤◌, Bool, List, All, length, slice_index_or, ◌≢◌, ◌*◌, ◌++◌, nat_lt, [], ◌∷◌}
use Rattle.jm_lane.specs.declared.spot.Spot.{Spot}
use Rattle.jm_lane.specs.declared.row.Row.{Row}
use Rattle.jm_lane.specs.Lanes.{Lane}
use Rattle.std.specs.List.{flat_map}
use Rattle.jm_lanes.specs.Lists.{sorted}
use Rattle.jm_dest.specs.Numbers.{long_end}
use Rattle.jm_lanes.specs.declared.span.Span.{Span}
use Rattle.jm_lane.specs.Rows.{IsRising}
use Rattle.jm_lane.specs.Chosen.{StandsIn}

-- the rows of all lanes, in the order of delivery
abbrev pub all_rows : List Lane → List Row
all_rows lanes = flat_map (λ (l : Lane). l.rows) lanes

-- a is of a lower place than b
abbrev pub is_lower : Row → Row → Bool
is_lower a b = nat_lt a.place b.place

-- the rows of all lanes, by place
abbrev pub rows_of : List Lane → List Row
rows_of lanes = sorted is_lower (all_rows lanes)

-- the lane at that index is one of the priority's three
pub record IsLaneOf (k priority : ℕ) : Type 0 where
  pub from : 27 ≤ 3 * priority + k
  pub to : 3 * priority + k < 30

-- no two rows of one place
abbrev pub IsApart : List Row → Type 0
IsApart [] = Unit {0}
IsApart (x ∷ xs) = All (λ (y : Row). y.place ≢ x.place) xs × IsApart xs

-- so many lanes, three for each priority, from the highest on, that have no rows
pub record AreEmptyLanes (lanes : List Lane) (count : ℕ) : Type 0 where
  pub number : length lanes ≡ count
  pub priorities : (k : ℕ) (d : Lane) → k < length lanes → IsLaneOf k (slice_index_or lanes k d).priority
  pub none : all_rows lanes ≡ []

-- no lanes, as before room is first made for a row, or three for each priority, from the highest on, no two rows of one
-- place, places below 2^63, and room for `room` more rows in each
pub record IsHeld (lanes : List Lane) (room : ℕ) : Type 0 where
  pub number : 0 < length lanes → length lanes ≡ 30
  pub made : 0 < room → length lanes ≡ 30
  pub priorities : (k : ℕ) (d : Lane) → k < length lanes → IsLaneOf k (slice_index_or lanes k d).priority
  pub rising : IsRising (rows_of lanes)
  pub bounded : All (λ (r : Row). r.place < long_end) (all_rows lanes)
  pub spare : All (λ (l : Lane). room ≤ l.spare) lanes

-- no lane but those of a span has rows, and each of the others has room for so many
pub record IsWithin (lanes : List Lane) (span : Span) (room : ℕ) : Type 0 where
  pub order : span.first ≤ span.end
  pub inside : span.end ≤ length lanes
  pub before : (k : ℕ) (d : Lane) → k < span.first → (slice_index_or lanes k d).rows ≡ []
  pub behind : (k : ℕ) (d : Lane) → span.end ≤ k → k < length lanes → (slice_index_or lanes k d).rows ≡ []
  pub room_before : (k : ℕ) (d : Lane) → k < span.first → room ≤ (slice_index_or lanes k d).spare
  pub room_behind : (k : ℕ) (d : Lane) → span.end ≤ k → k < length lanes → room ≤ (slice_index_or lanes k d).spare
  pub unmade : length lanes ≡ 0 → room ≡ 0

-- a lane after an edit of its rows
pub record Becomes (f : List Row → List Row) (a b : Lane) : Type 0 where
  pub priority : b.priority ≡ a.priority
  pub rows : b.rows ≡ f a.rows
  pub room : a.spare ≤ b.spare

-- each lane after that edit
pub record EachBecomes (f : List Row → List Row) (xs ys : List Lane) : Type 0 where
  pub len : length ys ≡ length xs
  pub at : (k : ℕ) (d : Lane) → k < length xs → Becomes f (slice_index_or xs k d) (slice_index_or ys k d)

-- a lane with one more row
pub record IsPushed (row : Row) (a b : Lane) : Type 0 where
  pub priority : b.priority ≡ a.priority
  pub rows : b.rows ≡ a.rows ++ row ∷ []
  pub room : a.spare ≡ b.spare + 1

-- the row stands there in its lane
pub record IsSpot (lanes : List Lane) (s : Spot) : Type 0 where
  pub within : s.lane < length lanes
  pub stands : (d : Lane) → StandsIn (slice_index_or lanes s.lane d).rows s
