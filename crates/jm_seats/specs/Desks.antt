-- Seats with what is called at them.
use Rattle.std.specs.Prelude.{◌≡◌, ◌≤◌, List, [], map, vec_capacity, vec_len}
use Rattle.jm_seats.specs.declared.desk.Desk.{Desk}
use Rattle.jm_seats.specs.Seat.{Seated, SeatRan}

-- the seats of desks
abbrev pub seats_at : {L : Type 0} → List (Desk L) → List Seated
seats_at desks = map (λ d. d.seat) desks

-- nothing was told at the desk yet, and there is room for what its calls are told
abbrev pub IsReady : {L : Type 0} → Desk L → Type 0
IsReady d = (d.replies.items ≡ []) × (vec_len d.calls ≤ vec_capacity d.replies)

-- the calls of the desk were made at its seat in turn, and told so
abbrev pub DeskRan : {L : Type 0} → Desk L → Desk L → Type 0
DeskRan old new = SeatRan old.seat old.calls.items new.replies.items new.seat
