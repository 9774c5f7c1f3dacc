-- How rows stand in a lane: those of one priority, by place.
use Rattle.std.specs.Prelude.{◌≡◌, ◌≢◌, ℕ, ◌≤◌, ◌<◌, ◌==◌, nat_lt, nat_le, Bool, true, false, not, ◌&&◌, ◌||◌, List, [], ◌∷◌, All, Contains, find, Option, MatchOption, IsSome, take, drop, length}
use Rattle.jm_dest.specs.Numbers.{long_end}
use Rattle.jm_lane.specs.declared.row.Row.{Row}
use Rattle.jm_lane.specs.Rows.{is_waiting, IsRising}

-- a lane: the rows of one priority, and for how many more there is room
pub record Lane : Type 0 where
  pub priority : ℕ
  pub rows : List Row
  pub spare : ℕ

-- a row that waits expires no earlier
abbrev pub IsBound : ℕ → Row → Type 0
IsBound least r = is_waiting r ≡ true → r.expiration ≢ 0 → least ≤ r.expiration

-- y does not expire before x
abbrev pub in_turn : Row → Row → Bool
in_turn x y = (y.expiration == 0) || (not (x.expiration == 0) && nat_le x.expiration y.expiration)

-- no row expires before an earlier one
abbrev pub IsSteady : List Row → Type 0
IsSteady [] = Unit {0}
IsSteady (x ∷ xs) = All (λ y. in_turn x y ≡ true) xs × IsSteady xs

-- a row that waits is due no earlier
abbrev pub IsDueBound : ℕ → Row → Type 0
IsDueBound due r = is_waiting r ≡ true → due ≤ r.due

-- no row is due before an earlier one
abbrev pub AreDueInTurn : List Row → Type 0
AreDueInTurn [] = Unit {0}
AreDueInTurn (x ∷ xs) = All (λ (y : Row). x.due ≤ y.due) xs × AreDueInTurn xs

-- none that waits is due before `due`, and where the lane is marked so its rows are due in turn
pub record AreDue (rows : List Row) (due : ℕ) (in_turn : Bool) : Type 0 where
  pub bound : All (IsDueBound due) rows
  pub turn : in_turn ≡ true → AreDueInTurn rows

-- no row waits before `low`, none is out from `high` on, and none that waits expires before `least`
pub record IsLane (rows : List Row) (priority low high least : ℕ) : Type 0 where
  pub same : All (λ (r : Row). r.priority ≡ priority) rows
  pub rising : IsRising rows
  pub low_in : low ≤ length rows
  pub high_in : high ≤ length rows
  pub before : All (λ r. is_waiting r ≡ false) (take low rows)
  pub behind : All (λ r. is_waiting r ≡ true) (drop high rows)
  pub bound : All (IsBound least) rows

-- the same, and where the lane is marked as steady its rows expire in turn; and what is known of when they are due
pub record IsSteadyLane (rows : List Row) (priority low high least : ℕ) (steady : Bool) (due : ℕ) (in_turn : Bool) : Type 0 where
  pub lane : IsLane rows priority low high least
  pub turn : steady ≡ true → IsSteady rows
  pub dues : AreDue rows due in_turn

-- the row is of a lower place
abbrev pub is_below : ℕ → Row → Bool
is_below place r = nat_lt r.place place

-- the row is at that place
abbrev pub is_at : ℕ → Row → Bool
is_at place r = r.place == place

-- a goes before b: it is of higher priority, or of the same and of the lower place
abbrev pub is_sooner : Row → Row → Bool
is_sooner a b = nat_lt b.priority a.priority || (a.priority == b.priority && nat_lt a.place b.place)

-- the row passes, is one of those, and none that passes goes before it
pub record IsSoonest (passes : Row → Bool) (rows : List Row) (r : Row) : Type 0 where
  pub pass : passes r ≡ true
  pub there : Contains rows r
  pub first : All (λ y. passes y ≡ true → is_sooner y r ≡ false) rows

-- the same of a row that may be absent, where none passes
abbrev pub IsSoonestOf : (Row → Bool) → List Row → Option Row → Type 0
IsSoonestOf passes rows o = MatchOption o (All (λ y. passes y ≡ false) rows) (IsSoonest passes rows)

-- a lane with the same rows; the room may differ
pub record IsCopied (a b : Lane) : Type 0 where
  pub priority : b.priority ≡ a.priority
  pub rows : b.rows ≡ a.rows

-- the least place of the rows from a place on, or one that is past all places where there is none
pub record IsPlaceFrom (place least : ℕ) (rows : List Row) : Type 0 where
  pub from : place ≤ least
  pub none : All (λ (r : Row). place ≤ r.place → least ≤ r.place) rows
  pub there : least < long_end → IsSome (find (is_at least) rows)
