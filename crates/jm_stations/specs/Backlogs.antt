-- What is held under each key, as callers see it.
use Rattle.std.specs.Prelude.{◌≡◌, ◌≤◌, ◌<◌, ◌-◌, ◌↔◌, nat_eq, ℕ, zero, suc, Bool, true, not, option_map, ◌&&◌, ◌==◌, List, [], ◌∷◌, ◌++◌, Contains, length, count_by, sum_by, slice_index_or, Option, Some, None, if◌then◌else◌}
use Rattle.std.specs.List.{list_any, IsDistinct}
use Rattle.std.specs.Option.{option_or}
use Rattle.jm_dest.specs.declared.key.Key.{Key}
use Rattle.jm_dest.specs.declared.session.SessionId.{SessionId}
use Rattle.jm_header.specs.declared.content.Content.{Content}
use Rattle.jm_machine.specs.declared.state.Row.{Row}
use Rattle.jm_machine.specs.declared.state.PlacedRow.{PlacedRow}
use Rattle.jm_machine.specs.declared.answer.Answer.{Answer}
use Rattle.jm_machine.specs.declared.answer.Answer.TheVariants.{Delivered, Nothing}
use Rattle.jm_machine.specs.Machine.{delivery, one_missed, settled_rows, returned_rows}
use Rattle.jm_machine.specs.Rows.{protected, fresh, is_out, sent_out, live, next, bare, chosen, deliver_chosen}
use Rattle.jm_machine.specs.Wants.{next_chosen, next_placed}
use Rattle.jm_pending.specs.declared.held.Taken.{Taken}
use Rattle.jm_stations.specs.declared.picked.Picked.{Picked}
use Rattle.jm_lane.specs.declared.row.Row.{Row as RowHere}
use Rattle.jm_pending.specs.Rows.{is_at_limit}

-- what is held under a key: rows with their messages, by place, the limit of their number, how many publications
-- were missed at the limit, and for how many more rows there is room
pub record Backlog : Type 0 where
  pub rows : List PlacedRow
  pub limit : Option ℕ
  pub missed : ℕ
  pub room : ℕ

-- nothing is held yet, of which there may be at most so many rows, or any number
abbrev pub empty : Option ℕ → Backlog
empty limit = record { rows = []; limit = limit; missed = 0; room = 0 }

-- the same rows, and no room for more
abbrev pub without_room : Backlog → Backlog
without_room b = record b { room = 0 }

-- one of a list is changed
abbrev pub changed_at : {X : Type 0} → ℕ → (X → X) → List X → List X
changed_at i f [] = []
changed_at zero f (x ∷ xs) = f x ∷ xs
changed_at (suc i) f (x ∷ xs) = x ∷ changed_at i f xs

-- the index is one of those
abbrev pub is_named : List ℕ → ℕ → Bool
is_named indexes k = list_any (λ i. i == k) indexes

-- a row comes, at its place; at the limit it is missed
abbrev pub joined : ℕ → Row → Backlog → Backlog
joined place row b =
    if is_at_limit b.limit (length b.rows)
    then record b { missed = one_missed b.missed }
    else record b { rows = b.rows ++ record { place = place; row = row } ∷ []; room = b.room - 1 }

-- the row of a message that comes, which was never delivered
abbrev pub added : ℕ → Content → Backlog → Backlog
added place m b = joined place (fresh m) b

-- each that is named has one row more, and each other is as before
pub record HasCome (indexes : List ℕ) (place : ℕ) (row : Row) (old new : List Backlog) : Type 0 where
  pub number : length new ≡ length old
  pub each : (k : ℕ) (d : Backlog) → k < length old → slice_index_or new k d ≡ (if is_named indexes k then joined place row (slice_index_or old k d) else slice_index_or old k d)

-- each that is named has one message more, and each other is as before
abbrev pub IsPublished : List ℕ → ℕ → Content → List Backlog → List Backlog → Type 0
IsPublished indexes place m old new = HasCome indexes place (fresh m) old new

-- what a delivery that settles at once leaves of a row: nothing
abbrev pub gone : Row → List Row
gone r = []

-- waiting rows that are expired go, and of those whose messages pass the next one is delivered and settled
abbrev pub received : (Content → Bool) → ℕ → Backlog → Backlog
received p now b = record b { rows = deliver_chosen p now gone b.rows }

-- what a delivery to the session through its consumer leaves of a row: it is out, and counted once more
abbrev pub out_row : SessionId → ℕ → Row → List Row
out_row s c r = sent_out s c r ∷ []

-- waiting rows that are expired go, and of those whose messages pass the next one is delivered, and goes out to the
-- session through its consumer
abbrev pub delivered : (Content → Bool) → SessionId → ℕ → ℕ → Backlog → Backlog
delivered p s c now b = record b { rows = deliver_chosen p now (out_row s c) b.rows }

-- the rows that are out through consumers that pass go
abbrev pub settled : (SessionId → ℕ → Bool) → Backlog → Backlog
settled p b = record b { rows = settled_rows p b.rows }

-- they wait again, at their places and with their counts
abbrev pub returned : (SessionId → ℕ → Bool) → Backlog → Backlog
returned p b = record b { rows = returned_rows p b.rows }

-- what is held under the keys that pass, each beside its key
abbrev pub kept_under : (Key → Bool) → List Key → List Backlog → List Backlog
kept_under p [] list = []
kept_under p (k ∷ keys) [] = []
kept_under p (k ∷ keys) (b ∷ list) = if p k then b ∷ kept_under p keys list else kept_under p keys list

-- what a delivery from these rows answers
abbrev pub answered : ℕ → List PlacedRow → Answer
answered now rows = delivery (next now (live now (bare rows)))

-- what a delivery from those of the rows answers whose messages pass
abbrev pub answered_where : (Content → Bool) → ℕ → List PlacedRow → Answer
answered_where p now rows = delivery (next now (live now (chosen p (bare rows))))

-- none of the rows is out
abbrev pub are_home : List PlacedRow → Bool
are_home rows = not (list_any (λ r. is_out (λ s c. true) r) (bare rows))

-- how many rows are at a place
abbrev pub placed_at : ℕ → List PlacedRow → ℕ
placed_at p rows = count_by (λ (x : PlacedRow). x.place == p) rows

-- how many rows of all are at a place, each of them a holder of the message there
abbrev pub holders_at : ℕ → List Backlog → ℕ
holders_at p list = sum_by (λ (b : Backlog). placed_at p b.rows) list

-- the message of a row that is held after a delivery: the row is not settled at once, or some other row holds it too
abbrev pub kept_message : Bool → List Backlog → Option PlacedRow → Option Content
kept_message settles list None = None
kept_message settles list (Some x) = if settles && (holders_at x.place list == 1) then None else Some x.row.message

-- the copy that a delivery wants, which settles at once or not: of the next row's message, where that is held after it
abbrev pub copy_wanted : Bool → ℕ → List Backlog → List PlacedRow → Option Content
copy_wanted settles now list rows = kept_message settles list (next_placed now rows)

-- the same of a delivery from those of the rows whose messages pass
abbrev pub copy_wanted_where : (Content → Bool) → Bool → ℕ → List Backlog → List PlacedRow → Option Content
copy_wanted_where p settles now list rows = kept_message settles list (next_chosen p now rows)

-- what a delivery takes, which settles at once or not: the next row, where there is one, with the copy that it wants
abbrev pub picked_of : Bool → List Backlog → Option PlacedRow → Option Picked
picked_of settles list next = option_map (λ x. record { place = x.place; copy = kept_message settles list (Some x) }) next

-- the same of a delivery from those of the rows at the index whose messages pass
abbrev pub IsPicked : (Content → Bool) → Bool → ℕ → List Backlog → ℕ → Option Picked → Type 0
IsPicked p settles now list index picked = (d : Backlog) → picked ≡ picked_of settles list (next_chosen p now (slice_index_or list index d).rows)

-- each message passes
abbrev pub any : Content → Bool
any m = true

-- under each key the same is held, and there is room for as many more rows or for further ones
pub record HasMoreRoom (old new : List Backlog) : Type 0 where
  pub number : length new ≡ length old
  pub same : (k : ℕ) (d : Backlog) → k < length old → slice_index_or new k d ≡ record (slice_index_or old k d) { room = (slice_index_or new k d).room }
  pub room : (k : ℕ) (d : Backlog) → k < length old → (slice_index_or old k d).room ≤ (slice_index_or new k d).room

-- so many messages are held: as many as places have rows
pub record IsNumberOfMessages (n : ℕ) (list : List Backlog) : Type 0 where
  pub places : List ℕ
  pub once : IsDistinct nat_eq places
  pub each : (p : ℕ) → (Contains places p) ↔ (0 < holders_at p list)
  pub number : length places ≡ n

-- what is handed out of a message with its count, where there is one
abbrev pub told : ℕ → Option Content → Answer
told count None = Nothing
told count (Some m) = Delivered (record { message = protected m; count = count })

-- what is handed out of a row that went out, of which the copy stands for its message
abbrev pub handed_copy : Option RowHere → Option Content → Answer
handed_copy None copy = Nothing
handed_copy (Some r) copy = told r.count copy

-- what is handed out of a row that was taken, with the copy where its message stays held
abbrev pub handed_out : Taken → Option Content → Answer
handed_out taken copy = told taken.row.count (option_or taken.message copy)

-- the same of a row that may have been taken
abbrev pub handed_over : Option Taken → Option Content → Answer
handed_over None copy = Nothing
handed_over (Some taken) copy = handed_out taken copy
