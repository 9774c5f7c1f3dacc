-- The seats of all sessions, calls at them one by one, and a stretch of calls in which all sessions call at once.
use Rattle.std.specs.Prelude.{◌≡◌, ℕ, suc, ◌<◌, Bool, true, false, List, [], ◌∷◌, length, map, Some, Result, if◌then◌else◌, slice_get, slice_index_or, slice_set}
use Rattle.jm_base.specs.declared.refusal.Refusal.{Refusal}
use Rattle.jm_dest.specs.declared.session.SessionId.{SessionId}
use Rattle.jm_dest.specs.Names.{session_eq}
use Rattle.jm_header.specs.declared.content.Sender.{Sender}
use Rattle.jm_machine.specs.declared.answer.Answer.{Answer}
use Rattle.jm_machine.specs.declared.call.Who.{Who}
use Rattle.jm_machine.specs.declared.call.Who.TheVariants.{Connection, Session}
use Rattle.jm_machine.specs.declared.call.Request.{Request}
use Rattle.jm_machine.specs.declared.call.Call.{Call}
use Rattle.jm_machine.specs.declared.call.Call.TheVariants.{Publish, Commit, Ask as AskStep}
use Rattle.jm_machine.specs.declared.call.ClientCall.{ClientCall}
use Rattle.jm_machine.specs.declared.call.ClientCall.TheVariants.{Ask, Send, CommitSession}
use Rattle.jm_audit.specs.Passes.{Calls}
use Rattle.jm_broker.specs.Calls.{Noted}
use Rattle.jm_parted.specs.Parts.{of_owner}
use Rattle.jm_tx.specs.declared.buffer.Buffer.{Buffer}
use Rattle.jm_seats.specs.Seat.{Seated, asked, half_after, unopened, SeatFits, SeatRan}

-- the seats of all sessions, and the pass that notes the calls of connections
pub record Seating : Type 0 where
  pub seats : List Seated
  pub connections : Calls

-- the place of a session's seat, from 0; the number of seats, where it has none
abbrev pub place_of : List Seated → SessionId → ℕ
place_of [] s = 0
place_of (seat ∷ seats) s = if session_eq seat.half.sender.session s then 0 else suc (place_of seats s)

-- the place of the seat at which a call is made; a call of a connection is made at none
abbrev pub owner_of : List Seated → ClientCall → ℕ
owner_of seats (Ask (Connection c) request) = length seats
owner_of seats (Ask (Session s) request) = place_of seats s
owner_of seats (Send s draft destination now) = place_of seats s
owner_of seats (CommitSession s) = place_of seats s

-- for each of the calls the place of its seat
abbrev pub owners_of : List Seated → List ClientCall → List ℕ
owners_of seats calls = map (λ call. owner_of seats call) calls

-- whose seats they are
abbrev pub senders_of : List Seated → List Sender
senders_of seats = map (λ seat. seat.half.sender) seats

-- a seat that heard what a request was told
abbrev pub heard : Who → Request → Result Answer Refusal → Seated → Seated
heard who request r seat = record { half = half_after who request r seat.half; pass = seat.pass }

-- the seats after a call was told so: each hears a request, and nothing else
abbrev pub all_heard : Who → Call → Result Answer Refusal → List Seated → List Seated
all_heard who (AskStep request) r seats = map (heard who request r) seats
all_heard who (Publish messages) r seats = seats
all_heard who (Commit messages) r seats = seats

-- a connection makes the call
abbrev pub is_by_connection : ClientCall → Bool
is_by_connection (Ask (Connection c) request) = true
is_by_connection (Ask (Session s) request) = false
is_by_connection (Send s draft destination now) = false
is_by_connection (CommitSession s) = false

-- a call of a connection is one step, which its own pass notes, and each seat hears what it was told
abbrev pub ConnectionFits : Who → Request → Seating → Result Answer Refusal → Seating → Type 0
ConnectionFits who request old r new =
    Noted old.connections new.connections (asked who request) r × (new.seats ≡ map (heard who request r) old.seats)

-- a call is made at the seat of that place, and all else is as before
pub record PlaceFits (i : ℕ) (call : ClientCall) (old : Seating) (r : Result Answer Refusal) (new : Seating) : Type 0 where
  pub before : Seated
  pub after : Seated
  pub stands : slice_get old.seats i ≡ Some before
  pub fits : SeatFits before call r after
  pub seats : new.seats ≡ slice_set old.seats i after
  pub connections : new.connections ≡ old.connections

-- what a client's call is told, and what the seats are then
abbrev pub SeatsFit : Seating → ClientCall → Result Answer Refusal → Seating → Type 0
SeatsFit old (Ask (Connection c) request) r new = ConnectionFits (Connection c) request old r new
SeatsFit old (Ask (Session s) request) r new = PlaceFits (place_of old.seats s) (Ask (Session s) request) old r new
SeatsFit old (Send s draft destination now) r new = PlaceFits (place_of old.seats s) (Send s draft destination now) old r new
SeatsFit old (CommitSession s) r new = PlaceFits (place_of old.seats s) (CommitSession s) old r new

-- at each seat the calls that are its own were made in their order, and told so
abbrev pub AllRan : List ℕ → List Seated → List ClientCall → List (Result Answer Refusal) → List Seated → Type 0
AllRan owners olds calls replies news =
    (k : ℕ) (d : Seated) → k < length olds
    → SeatRan (slice_index_or olds k d) (of_owner k owners calls) (of_owner k owners replies) (slice_index_or news k d)

-- what a stretch of calls is told, one reply for each, and what the seats are then: at each seat the calls that are made there
-- were made in their order, and told so
pub record StretchFits (old : Seating) (calls : List ClientCall) (replies : List (Result Answer Refusal)) (new : Seating) : Type 0 where
  pub replied : length replies ≡ length calls
  pub as_many : length new.seats ≡ length old.seats
  pub ran : AllRan (owners_of old.seats calls) old.seats calls replies new.seats
  pub connections : new.connections ≡ old.connections

-- one of the calls is made at no seat: it is a connection's, or its session has none
pub record IsUnseated (seats : List Seated) (calls : List ClientCall) : Type 0 where
  pub i : ℕ
  pub call : ClientCall
  pub stands : slice_get calls i ≡ Some call
  pub nowhere : owner_of seats call ≡ length seats

-- the half of a session of that opening that is not open yet
abbrev pub unopened_at : ℕ → SessionId → Buffer
unopened_at opening s = unopened (record { opening = opening; session = s })

-- no call was made with the pass
abbrev pub IsUnused : Calls → Type 0
IsUnused pass = (pass.entries ≡ []) × (pass.made ≡ 0)
