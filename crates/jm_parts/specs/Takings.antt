-- Deliveries that are prepared: from which rows, and with which copy.
use Rattle.std.specs.Prelude.{◌≡◌, ◌<◌, ℕ, Bool, true, false, List, Option, Some, None, is_some, length, slice_get, slice_index_or, if◌then◌else◌}
use Rattle.jm_dest.specs.declared.session.SessionId.{SessionId}
use Rattle.jm_dest.specs.declared.key.Key.{Key}
use Rattle.jm_dest.specs.declared.key.Key.TheVariants.{Queue, Own, SharedOwn, Durable}
use Rattle.jm_header.specs.declared.content.Content.{Content}
use Rattle.jm_machine.specs.declared.answer.Answer.{Answer}
use Rattle.jm_machine.specs.declared.answer.Answer.TheVariants.{Nothing}
use Rattle.jm_machine.specs.declared.state.Consumer.{Consumer}
use Rattle.jm_machine.specs.declared.state.PlacedRow.{PlacedRow}
use Rattle.jm_machine.specs.declared.state.Row.{Row}
use Rattle.jm_machine.specs.declared.state.Station.{Station}
use Rattle.jm_machine.specs.Life.{Life, is_started}
use Rattle.jm_machine.specs.Rows.{deliver_placed, left_of, settles_at_once}
use Rattle.jm_machine.specs.Machine.{consumer_of, missed_of, station_of}
use Rattle.jm_machine.specs.Wants.{is_queued_after, next_chosen}
use Rattle.jm_stations.specs.Backlogs.{Backlog, IsPicked, answered, any, changed_at, copy_wanted}
use Rattle.jm_stations.specs.Stations.{Stations, index_in}
use Rattle.jm_parts.specs.declared.receive.Receiver.{Receiver}
use Rattle.jm_parts.specs.declared.receive.Taking.{Taking}

-- the consumer that receives, while its connection is started
abbrev pub source_of : Life → List Consumer → SessionId → ℕ → Option Consumer
source_of life consumers s c = if is_started life s.connection then consumer_of consumers s c else None

-- the key is that of a queue
abbrev pub is_queue : Option Key → Bool
is_queue None = false
is_queue (Some (Queue name)) = true
is_queue (Some (Own s c)) = false
is_queue (Some (SharedOwn client name)) = false
is_queue (Some (Durable client name)) = false

-- the receiver's mode settles a message in the step that delivers it
abbrev pub settles : Receiver → Bool
settles r = settles_at_once (Some r.mode)

-- what a delivery to the receiver leaves of a row
abbrev pub left_by : Receiver → Row → List Row
left_by r = left_of (Some r.mode) r.session r.consumer

-- what a delivery takes at an index is what is picked there: the next row, where there is one, with the copy that it wants
abbrev pub IsPickedAt : Receiver → List Backlog → Taking → Type 0
IsPickedAt r list x = IsPicked any (settles r) r.moment list x.index x.picked

-- a delivery takes nothing where there is no key, or nothing stands under it; else what is picked there: the next row, with
-- the copy that is wanted
abbrev pub IsTaken : Option Key → Receiver → List Key → List Backlog → Option Taking → Type 0
IsTaken None r keys list taking = taking ≡ None
IsTaken (Some key) r keys list None = index_in keys key ≡ None
IsTaken (Some key) r keys list (Some x) =
    (index_in keys key ≡ Some x.index) × IsPickedAt r list x

-- a delivery from the queue of that name takes nothing where nothing stands under its key; else the next row there whose
-- message passes, where there is one, with the copy that it wants
abbrev pub IsTakenFrom : List ℕ → (Content → Bool) → Receiver → Stations → Option Taking → Type 0
IsTakenFrom name p r queues None = index_in queues.keys (Queue name) ≡ None
IsTakenFrom name p r queues (Some x) =
    (index_in queues.keys (Queue name) ≡ Some x.index) × (x.index < length queues.list)
    × IsPicked p (settles r) r.moment queues.list x.index x.picked

-- a delivery from the rows of a queue wants a copy
abbrev pub wants_copy_of : (Content → Bool) → Receiver → List PlacedRow → Bool
wants_copy_of p r rows = is_queued_after (Some r.mode) (next_chosen p r.moment rows)

-- a delivery from what stands there wants a copy
abbrev pub wants_from : Receiver → List Backlog → Option Backlog → Bool
wants_from r list None = false
wants_from r list (Some b) = is_some (copy_wanted (settles r) r.moment list b.rows)

-- what stands at the index, where there is one
abbrev pub backlog_at : List Backlog → Option ℕ → Option Backlog
backlog_at list None = None
backlog_at list (Some i) = slice_get list i

-- a delivery from the key wants a copy
abbrev pub wants_copy : Option Key → Receiver → List Key → List Backlog → Bool
wants_copy None r keys list = false
wants_copy (Some key) r keys list = wants_from r list (backlog_at list (index_in keys key))

-- what stands there after a delivery that leaves that of a row
abbrev pub with_delivery : (Row → List Row) → ℕ → Backlog → Backlog
with_delivery left now b = record b { rows = deliver_placed now left b.rows }

-- what is held after the delivery
abbrev pub taken_from : Option Taking → Receiver → List Backlog → List Backlog
taken_from None r list = list
taken_from (Some x) r list = changed_at x.index (with_delivery (left_by r) r.moment) list

-- the answer is that of the delivery
abbrev pub IsTold : Option Taking → ℕ → List Backlog → Answer → Type 0
IsTold None now list a = a ≡ Nothing
IsTold (Some x) now list a = (d : Backlog) → a ≡ answered now (slice_index_or list x.index d).rows

-- so many publications were missed by what stands at the index, where there is one
abbrev pub IsMissed : Option ℕ → List Backlog → ℕ → Type 0
IsMissed None list n = n ≡ 0
IsMissed (Some i) list n = (d : Backlog) → n ≡ (slice_index_or list i d).missed

-- how many publications the subscription of the key missed, where there is a key
abbrev pub missed_at : Option Key → List Station → ℕ
missed_at None stations = 0
missed_at (Some key) stations = missed_of (station_of key stations)
