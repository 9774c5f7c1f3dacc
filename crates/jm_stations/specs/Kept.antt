-- What is held inside: the rows of each key, over one table of messages.
use Rattle.std.specs.Prelude.{◌≡◌, ◌≤◌, ◌<◌, ◌+◌, ◌-◌, ◌&&◌, ◌==◌, ℕ, Bool, not, List, [], ◌∷◌, ◌++◌, map, filter, find, length, slice_index_or, All, Option, Some, None, option_map, if◌then◌else◌}
use Rattle.jm_dest.specs.Numbers.{long_end}
use Rattle.jm_dest.specs.declared.key.Key.{Key}
use Rattle.jm_dest.specs.declared.session.SessionId.{SessionId}
use Rattle.jm_header.specs.declared.content.Content.{Content}
use Rattle.jm_machine.specs.Machine.{one_missed}
use Rattle.jm_lane.specs.declared.row.Row.{Row}
use Rattle.jm_pending.specs.declared.held.Taken.{Taken}
use Rattle.jm_lane.specs.Lanes.{is_at}
use Rattle.jm_lane.specs.Rows.{is_elsewhere, is_out, stays, back, counted, sent_at}
use Rattle.jm_pending.specs.Rows.{Held, is_at_limit}
use Rattle.jm_lane.specs.Holders.{Messages, KeepsMessages, holders_of, message_of, last_message}
use Rattle.jm_pending.specs.Counts.{IsCounted, all_at}
use Rattle.jm_pending.specs.Placed.{all_placed, AreRowsOf}
use Rattle.jm_stations.specs.Backlogs.{Backlog, is_named}
use Rattle.jm_stations.specs.declared.picked.Picked.{Picked}

-- the rows of each list
abbrev pub all_rows : List Held → List (List Row)
all_rows lists = map (λ (h : Held). h.rows) lists

-- a list of rows, as callers see it
abbrev pub shown : Messages → Held → Backlog
shown t h = record { rows = all_placed t h.rows; limit = h.limit; missed = h.missed; room = h.room }

-- all lists, as callers see them
abbrev pub all_shown : Messages → List Held → List Backlog
all_shown t lists = map (shown t) lists

-- the same rows, and no room for more
abbrev pub without_room : Held → Held
without_room h = record h { room = 0 }

-- each row is of a lower place
abbrev pub AreBelow : ℕ → List Row → Type 0
AreBelow place rows = All (λ (r : Row). r.place < place) rows

-- what each list keeps: its rows stand below the next place, and have the priority, the expiration and the due moment of their messages
pub record IsBacklog (t : Messages) (next_place : ℕ) (h : Held) : Type 0 where
  pub below : AreBelow next_place h.rows
  pub own : AreRowsOf t h.rows

-- each place has as many holders as rows of all lists, and each list is in order; places run to 2^63-1
pub record IsKept (t : Messages) (lists : List Held) (next_place : ℕ) : Type 0 where
  pub counted : IsCounted t (all_rows lists)
  pub each : All (IsBacklog t next_place) lists
  pub places : next_place ≤ long_end

-- one row more, or at the limit one publication missed
abbrev pub with_row : Row → Held → Held
with_row row h =
    if is_at_limit h.limit (length h.rows)
    then record h { missed = one_missed h.missed }
    else record h { rows = h.rows ++ row ∷ []; room = h.room - 1 }

-- each list that is named has one row more, and each other is as before
pub record IsOffered (indexes : List ℕ) (row : Row) (old new : List Held) : Type 0 where
  pub number : length new ≡ length old
  pub each : (k : ℕ) (d : Held) → k < length old → slice_index_or new k d ≡ (if is_named indexes k then with_row row (slice_index_or old k d) else slice_index_or old k d)

-- the holders follow the rows of all lists
pub record FollowsAll (old new : Messages) (before after : List (List Row)) : Type 0 where
  pub holders : (p : ℕ) → holders_of new p + all_at p before ≡ holders_of old p + all_at p after
  pub messages : KeepsMessages old new

-- rows without the waiting ones that are expired
abbrev pub dropped : ℕ → Held → Held
dropped now h = record h { rows = filter (stays now) h.rows }

-- and without the one at a place
abbrev pub received_at : ℕ → ℕ → Held → Held
received_at place now h = record h { rows = filter (is_elsewhere place) (filter (stays now) h.rows) }

-- the same, of which the one at a place goes out
abbrev pub delivered_at : ℕ → SessionId → ℕ → ℕ → Held → Held
delivered_at place s c now h = record h { rows = map (sent_at place s c) (filter (stays now) h.rows) }

-- the row at a place that is left of those
abbrev pub left_at : ℕ → ℕ → Held → Option Row
left_at place now h = find (is_at place) (filter (stays now) h.rows)

-- rows without those that are out through consumers that pass
abbrev pub settled_out : (SessionId → ℕ → Bool) → Held → Held
settled_out p h = record h { rows = filter (λ r. not (is_out p r)) h.rows }

-- rows of which those wait again
abbrev pub given_back : (SessionId → ℕ → Bool) → Held → Held
given_back p h = record h { rows = map (back (is_out p)) h.rows }

-- what is taken out: a row, counted, with its message where no other row holds it
abbrev pub taken : Messages → Option Row → Option Taken
taken t row = option_map (λ r. record { row = counted r; message = last_message t r.place }) row

-- each list is the same, and has room for as many more rows or for further ones
pub record HasMoreRoom (old new : List Held) : Type 0 where
  pub number : length new ≡ length old
  pub same : (k : ℕ) (d : Held) → k < length old → slice_index_or new k d ≡ record (slice_index_or old k d) { room = (slice_index_or new k d).room }
  pub room : (k : ℕ) (d : Held) → k < length old → (slice_index_or old k d).room ≤ (slice_index_or new k d).room

-- the message of a row that is held after a delivery: the row is not settled at once, or some other row holds it too
abbrev pub copied : Bool → Messages → Option Row → Option Content
copied settles t None = None
copied settles t (Some r) = if settles && (holders_of t r.place == 1) then None else message_of t r.place

-- what a delivery takes: a row, with the copy that it wants
abbrev pub picked : Bool → Messages → Option Row → Option Picked
picked settles t row = option_map (λ r. record { place = r.place; copy = copied settles t (Some r) }) row

-- the rows of a list go, where it ends
abbrev pub cleared : Bool → Held → Held
cleared ends h = if ends then record h { rows = [] } else h

-- the rows go of the lists whose keys pass
abbrev pub cleared_under : (Key → Bool) → List Key → List Held → List Held
cleared_under p [] lists = lists
cleared_under p (k ∷ keys) [] = []
cleared_under p (k ∷ keys) (h ∷ lists) = cleared (p k) h ∷ cleared_under p keys lists

-- the lists whose keys pass
abbrev pub lists_under : (Key → Bool) → List Key → List Held → List Held
lists_under p [] lists = []
lists_under p (k ∷ keys) [] = []
lists_under p (k ∷ keys) (h ∷ lists) = if p k then h ∷ lists_under p keys lists else lists_under p keys lists
