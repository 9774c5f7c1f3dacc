-- Messages that were stored, each with rows under several keys.
use Rattle.std.specs.Prelude.{◌≡◌, ◌<◌, ◌==◌, ℕ, List, find, length, slice_index_or, Option, None, Some}
use Rattle.jm_header.specs.declared.content.Content.{Content}
use Rattle.jm_machine.specs.declared.state.Row.{Row}
use Rattle.jm_machine.specs.declared.state.RowState.TheVariants.{Waiting}
use Rattle.jm_lane.specs.declared.row.Row.{Row as RowHere}
use Rattle.jm_pending.specs.Rows.{Held}
use Rattle.jm_stations.specs.declared.loading.StoredRow.{StoredRow}
use Rattle.jm_stations.specs.Backlogs.{Backlog, joined}
use Rattle.jm_stations.specs.Kept.{with_row}

-- the row of a message that was stored: it waits, and was delivered so often
abbrev pub stored_row : Content → ℕ → Row
stored_row m count = record { message = m; count = count; state = Waiting }

-- what was stored under the key with the index, where something was
abbrev pub stored_at : ℕ → List StoredRow → Option StoredRow
stored_at k rows = find (λ r. r.index == k) rows

-- the row that was stored there comes, at the message's place
abbrev pub loaded : ℕ → Content → Option StoredRow → Backlog → Backlog
loaded place m None b = b
loaded place m (Some r) b = joined place (stored_row m r.count) b

-- under each key comes the row that was stored there, and what is held under each other is as before
pub record AreLoaded (rows : List StoredRow) (place : ℕ) (m : Content) (old new : List Backlog) : Type 0 where
  pub number : length new ≡ length old
  pub each : (k : ℕ) (d : Backlog) → k < length old → slice_index_or new k d ≡ loaded place m (stored_at k rows) (slice_index_or old k d)

-- inside: a list with the row, counted as it was stored there
abbrev pub with_stored : RowHere → Option StoredRow → Held → Held
with_stored row None h = h
with_stored row (Some r) h = with_row (record row { count = r.count }) h

-- each list has the row that was stored there, and each other is as before
pub record AreOffered (rows : List StoredRow) (row : RowHere) (old new : List Held) : Type 0 where
  pub number : length new ≡ length old
  pub each : (k : ℕ) (d : Held) → k < length old → slice_index_or new k d ≡ with_stored row (stored_at k rows) (slice_index_or old k d)
