-- Which lists may have rows out.
use Rattle.std.specs.Prelude.{◌≡◌, ◌≤◌, ◌<◌, ◌+◌, ◌-◌, ℕ, suc, nat_lt, true, false, List, [], ◌∷◌, length, slice_index_or, if◌then◌else◌}
use Rattle.jm_lane.specs.Rows.{are_home}
use Rattle.jm_pending.specs.Rows.{Held}
use Rattle.jm_stations.specs.Backlogs.{is_named}

-- the indexes of the lists that may have rows out, how many lists there are, and for how many more there is room
pub record Outstanding : Type 0 where
  pub indexes : List ℕ
  pub number : ℕ
  pub room : ℕ

-- the indexes rise from the first number on, and are below the second
abbrev pub AreRising : ℕ → ℕ → List ℕ → Type 0
AreRising low high [] = low ≤ high
AreRising low high (i ∷ is) = (low ≤ i) × AreRising (suc i) high is

-- of no list is a row out, but of those that are named
abbrev pub AreHomeBut : List ℕ → List Held → Type 0
AreHomeBut indexes lists = (k : ℕ) (d : Held) → k < length lists → is_named indexes k ≡ false → are_home (slice_index_or lists k d).rows ≡ true

-- where a list stands once the one at the index is taken out
abbrev pub moved_up : ℕ → ℕ → ℕ
moved_up index k = if nat_lt index k then k - 1 else k

-- where a list stood before it was
abbrev pub moved_down : ℕ → ℕ → ℕ
moved_down index k = if nat_lt k index then k else k + 1
