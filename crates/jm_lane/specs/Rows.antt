-- Rows, each for a message: their states, and what is asked of one alone.
use Rattle.std.specs.Prelude.{ℕ, ◌+◌, ◌<◌, ◌==◌, nat_lt, nat_le, Bool, true, not, ◌&&◌, ◌||◌, if◌then◌else◌, List, [], ◌∷◌, All}
use Rattle.std.specs.List.{list_any}
use Rattle.jm_dest.specs.declared.session.SessionId.{SessionId}
use Rattle.jm_header.specs.declared.content.Content.{Content}
use Rattle.jm_header.specs.Headers.{is_delayed}
use Rattle.jm_machine.specs.declared.state.RowState.{RowState}
use Rattle.jm_machine.specs.declared.state.RowState.TheVariants.{Waiting, Out}
use Rattle.jm_machine.specs.Rows.{waits, goes_out}
use Rattle.jm_machine.specs.Machine.{are_meant, of_number}
use Rattle.jm_lane.specs.declared.row.Row.{Row}
use Rattle.jm_lane.specs.declared.row.Outs.{Outs}
use Rattle.jm_lane.specs.declared.row.Outs.TheVariants.{Of, Through}

-- the moment before which a message is held back: its delivery time, where it has a delay, and else 0
abbrev pub due_of : Content → ℕ
due_of m = if is_delayed m then m.delivery_time else 0

-- the row of a message that was delivered so often, at its place and in that state
abbrev pub row_of : ℕ → Content → ℕ → RowState → Row
row_of place m count state =
    record { place = place; count = count; state = state; priority = m.priority; expiration = m.expiration; due = due_of m }

-- the row of a message that comes, at its place: it waits, and was never delivered
abbrev pub fresh : ℕ → Content → Row
fresh place m = row_of place m 0 Waiting

-- the row waits
abbrev pub is_waiting : Row → Bool
is_waiting r = waits r.state

-- the row is out, through a consumer that passes
abbrev pub is_out : (SessionId → ℕ → Bool) → Row → Bool
is_out p r = goes_out p r.state

-- none of the rows is out
abbrev pub are_home : List Row → Bool
are_home rows = not (list_any (λ r. is_out (λ s c. true) r) rows)

-- the row at the place is out through the session's consumer of that number
abbrev pub is_out_through : SessionId → ℕ → ℕ → Row → Bool
is_out_through session consumer place r = (r.place == place) && is_out (of_number session consumer) r

-- the row is one of those
abbrev pub is_among : Outs → Row → Bool
is_among (Of which) r = is_out (are_meant which) r
is_among (Through session consumer place) r = is_out_through session consumer place r

-- the row is none of those
abbrev pub keeps : Outs → Row → Bool
keeps outs r = not (is_among outs r)

-- a row is expired from its expiration on, where it has one (Jakarta Messaging 3.1, section 3.4.9)
abbrev pub is_expired : ℕ → Row → Bool
is_expired now r = not (r.expiration == 0) && nat_le r.expiration now

-- what a delivery leaves: rows that are out, and rows that are not expired
abbrev pub stays : ℕ → Row → Bool
stays now r = not (is_waiting r) || not (is_expired now r)

-- a row is held back before its due moment
abbrev pub is_held_back : ℕ → Row → Bool
is_held_back now r = nat_lt now r.due

-- a row may be delivered: it waits, is not expired, and is not held back
abbrev pub is_ready : ℕ → Row → Bool
is_ready now r = is_waiting r && (not (is_expired now r) && not (is_held_back now r))

-- a count of deliveries, one more; from 2,147,483,647 on it stays (ours)
abbrev pub raised : ℕ → ℕ
raised n = if nat_lt n 2147483647 then n + 1 else n

-- a row after one more delivery
abbrev pub counted : Row → Row
counted r = record r { count = raised r.count }

-- a row that is delivered, and goes out to the session through its consumer
abbrev pub sent : SessionId → ℕ → Row → Row
sent session consumer r = record (counted r) { state = Out session consumer }

-- the row at a place is sent
abbrev pub sent_at : ℕ → SessionId → ℕ → Row → Row
sent_at place session consumer r = if r.place == place then sent session consumer r else r

-- the row is at another place
abbrev pub is_elsewhere : ℕ → Row → Bool
is_elsewhere place r = not (r.place == place)

-- the row is at that place or at a higher one
abbrev pub is_from : ℕ → Row → Bool
is_from place r = nat_le place r.place

-- a row that passes waits again, at its place and with its count
abbrev pub back : (Row → Bool) → Row → Row
back passes r = if passes r then record r { state = Waiting } else r

-- places rise through the list
abbrev pub IsRising : List Row → Type 0
IsRising [] = Unit {0}
IsRising (x ∷ xs) = All (λ (y : Row). x.place < y.place) xs × IsRising xs
