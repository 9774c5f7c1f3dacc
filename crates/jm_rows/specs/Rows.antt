-- What the rows of one subscription show.
use Rattle.std.specs.Prelude.{◌≡◌, ◌≤◌, ◌<◌, ◌+◌, ℕ, List, [], ◌∷◌, length, slice_index_or, None}
use Rattle.jm_machine.specs.declared.state.Row.{Row}
use Rattle.jm_machine.specs.Machine.{places_end}
use Rattle.jm_machine.specs.Rows.{bare, InOrder}
use Rattle.jm_stations.specs.Backlogs.{Backlog}
use Rattle.jm_stations.specs.Stations.{Stations}

-- the rows of the first list, without their places
abbrev pub rows_in : List Backlog → List Row
rows_in [] = []
rows_in (b ∷ list) = bare b.rows

-- there is no list, or a single one, of any number of rows, which stand in order below the next place
abbrev pub IsOneAtMost : ℕ → List Backlog → Type 0
IsOneAtMost next_place [] = Unit {0}
IsOneAtMost next_place (b ∷ []) = (b.limit ≡ None) × InOrder next_place b.rows
IsOneAtMost next_place (b ∷ c ∷ list) = ⊥

-- there is a first list, with room for so many more rows, for which there are places
pub record HasRoom (n : ℕ) (stations : Stations) : Type 0 where
  pub first : 0 < length stations.list
  pub places : stations.next_place + n ≤ places_end
  pub messages : n ≤ stations.message_room
  pub rows : (d : Backlog) → n ≤ (slice_index_or stations.list 0 d).room
