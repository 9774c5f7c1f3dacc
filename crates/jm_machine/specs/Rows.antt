-- A row is a message that is held, with the count of its deliveries: it waits, or is out to a session. Rows
-- stand in the order of their places.
use Rattle.std.specs.Prelude.{ℕ, ◌+◌, ◌<◌, Bool, true, false, ◌&&◌, ◌||◌, not, ◌==◌, nat_le, nat_lt, List, [], ◌∷◌, ◌++◌, filter, map, find, Option, Some, None, if◌then◌else◌}
use Rattle.std.specs.List.{list_all}
use Rattle.jm_base.specs.declared.mode.Mode.{Mode}
use Rattle.jm_base.specs.declared.mode.Mode.TheVariants.{Auto, Client, Dups, Transacted}
use Rattle.jm_header.specs.declared.content.Content.{Content}
use Rattle.jm_dest.specs.declared.session.SessionId.{SessionId}
use Rattle.jm_machine.specs.declared.state.Row.{Row}
use Rattle.jm_machine.specs.declared.state.RowState.{RowState}
use Rattle.jm_machine.specs.declared.state.RowState.TheVariants.{Waiting, Out}
use Rattle.jm_machine.specs.declared.state.PlacedRow.{PlacedRow}

-- a message is expired at a moment from its expiration on, where it has one (Jakarta Messaging 3.1,
-- section 3.4.9)
abbrev pub is_expired : ℕ → Content → Bool
is_expired now m = not (m.expiration == 0) && nat_le m.expiration now

-- a message is held back at a moment before its delivery time, where that is after its timestamp (Jakarta Messaging
-- 3.1, section 7.9)
abbrev pub is_held_back : ℕ → Content → Bool
is_held_back now m = nat_lt m.timestamp m.delivery_time && nat_lt now m.delivery_time

-- a message as it is handed out: both of its parts are read-only (Jakarta Messaging 3.1, section 3.10)
abbrev pub protected : Content → Content
protected m = record m { is_body_read_only = true; are_properties_read_only = true }

-- the row of a message that comes
abbrev pub fresh : Content → Row
fresh m = record { message = m; count = 0; state = Waiting }

-- a state of waiting
abbrev pub waits : RowState → Bool
waits Waiting = true
waits (Out s c) = false

-- the row waits
abbrev pub is_waiting : Row → Bool
is_waiting r = waits r.state

-- a state of being out, through a consumer that passes
abbrev pub goes_out : (SessionId → ℕ → Bool) → RowState → Bool
goes_out p Waiting = false
goes_out p (Out s c) = p s c

-- the row is out, through a consumer that passes
abbrev pub is_out : (SessionId → ℕ → Bool) → Row → Bool
is_out p r = goes_out p r.state

-- a row that waits is dropped at a moment at which its message is expired
abbrev pub has_lapsed : ℕ → Row → Bool
has_lapsed now r = is_waiting r && is_expired now r.message

-- a row that waits may be delivered at a moment at which its message is neither expired nor held back
abbrev pub is_ready : ℕ → Row → Bool
is_ready now r = is_waiting r && (not (is_expired now r.message) && not (is_held_back now r.message))

-- the rows that have not lapsed
abbrev pub live : ℕ → List Row → List Row
live now rows = filter (λ r. not (has_lapsed now r)) rows

-- none of the rows that may be delivered has a priority above that one
abbrev pub none_above : ℕ → List Row → ℕ → Bool
none_above now rows priority = list_all (λ x. not (is_ready now x) || nat_le x.message.priority priority) rows

-- a row may be delivered, and none that may has a higher priority
unfoldable pub is_next : ℕ → List Row → Row → Bool
is_next now rows r = is_ready now r && none_above now rows r.message.priority

-- the next row: of those the first, which is the one of least place (Jakarta Messaging 3.1, section
-- 3.4.10, asks that higher priorities go first as far as possible; that they always do is ours)
abbrev pub next : ℕ → List Row → Option Row
next now rows = find (is_next now rows) rows

-- the greatest count of deliveries
abbrev pub greatest_count : ℕ
greatest_count = 2147483647

-- a count of deliveries, one more; from the greatest on it stays (ours)
abbrev pub raised : ℕ → ℕ
raised n = if nat_lt n greatest_count then n + 1 else n

-- the mode settles a message in the step that delivers it
abbrev pub settles_at_once : Option Mode → Bool
settles_at_once (Some Auto) = true
settles_at_once (Some Client) = false
settles_at_once (Some Dups) = true
settles_at_once (Some Transacted) = false
settles_at_once None = false

-- a row that is delivered to the session through its consumer: out, and counted once more
abbrev pub sent_out : SessionId → ℕ → Row → Row
sent_out s c r = record { message = r.message; count = raised r.count; state = Out s c }

-- what a delivery in that mode leaves of a row
unfoldable pub left_of : Option Mode → SessionId → ℕ → Row → List Row
left_of mode s c r = if settles_at_once mode then [] else sent_out s c r ∷ []

-- what a delivery to a consumer's listener leaves of a row: in every mode it is out
abbrev pub taken : SessionId → ℕ → Row → List Row
taken s c r = sent_out s c r ∷ []

-- a row that is out through a consumer that passes waits again, with its count
abbrev pub given_back : (SessionId → ℕ → Bool) → Row → Row
given_back p r = if is_out p r then record r { state = Waiting } else r

-- other rows in place of the first that passes
abbrev pub change_first : (Row → Bool) → (Row → List Row) → List Row → List Row
change_first p f [] = []
change_first p f (r ∷ rows) = if p r then f r ++ rows else r ∷ change_first p f rows

-- the rows whose messages pass
abbrev pub chosen : (Content → Bool) → List Row → List Row
chosen p rows = filter (λ r. p r.message) rows

-- rows that have lapsed go, and the next one is delivered
abbrev pub deliver : ℕ → (Row → List Row) → List Row → List Row
deliver now f rows = change_first (is_next now (live now rows)) f (live now rows)

-- rows without their places
abbrev pub bare : List PlacedRow → List Row
bare rows = map (λ x. x.row) rows

-- the same of rows at their places
abbrev pub change_placed : (Row → Bool) → (Row → List Row) → List PlacedRow → List PlacedRow
change_placed p f [] = []
change_placed p f (x ∷ rows) = if p x.row then map (λ r. record { place = x.place; row = r }) (f x.row) ++ rows else x ∷ change_placed p f rows

-- the rows at their places that have not lapsed
abbrev pub live_placed : ℕ → List PlacedRow → List PlacedRow
live_placed now rows = filter (λ x. not (has_lapsed now x.row)) rows

-- rows at their places that have lapsed go, and the next one is delivered
abbrev pub deliver_placed : ℕ → (Row → List Row) → List PlacedRow → List PlacedRow
deliver_placed now f rows = change_placed (is_next now (live now (bare rows))) f (live_placed now rows)

-- of the rows whose messages pass, a row is the next one
abbrev pub is_next_chosen : (Content → Bool) → ℕ → List Row → Row → Bool
is_next_chosen p now rows r = p r.message && is_next now (chosen p rows) r

-- rows at their places that have lapsed go, also those whose messages do not pass; and of those that do the next one is
-- delivered
abbrev pub deliver_chosen : (Content → Bool) → ℕ → (Row → List Row) → List PlacedRow → List PlacedRow
deliver_chosen p now f rows = change_placed (is_next_chosen p now (live now (bare rows))) f (live_placed now rows)

-- the rows stand at places above that one
abbrev pub AllAbove : ℕ → List PlacedRow → Type 0
AllAbove place [] = Unit {0}
AllAbove place (x ∷ rows) = (place < x.place) × AllAbove place rows

-- the rows stand by place, each below all that follow it, and all below the next place
abbrev pub InOrder : ℕ → List PlacedRow → Type 0
InOrder next_place [] = Unit {0}
InOrder next_place (x ∷ rows) = (x.place < next_place) × AllAbove x.place rows × InOrder next_place rows
