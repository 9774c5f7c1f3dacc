-- The parts of a scenario, made at the seats of its sessions (ours).
use Rattle.std.specs.Prelude.{◌≡◌, ℕ, false, List, [], ◌∷◌, ◌++◌, length, map, All, Result}
use Rattle.jm_base.specs.declared.refusal.Refusal.{Refusal}
use Rattle.jm_dest.specs.declared.session.SessionId.{SessionId}
use Rattle.jm_machine.specs.declared.answer.Answer.{Answer}
use Rattle.jm_audit.specs.Passes.{Calls}
use Rattle.jm_forks.specs.declared.part.Part.{Part}
use Rattle.jm_forks.specs.declared.part.Part.TheVariants.{Alone, Together}
use Rattle.jm_seats.specs.Faults.{OnNoSeat}
use Rattle.jm_seats.specs.Seat.{Seated}
use Rattle.jm_seats.specs.Seats.{Seating, SeatsFit, StretchFits, IsUnseated, IsUnused, is_by_connection, owner_of, unopened_at}
use Rattle.jm_seats.specs.declared.stretch.StretchFault.{StretchFault}

-- what a part is told, and what the seats are then: a call alone is made at its seat, and calls together are made in a stretch
abbrev pub PartFits : Seating → Part → List (Result Answer Refusal) → Seating → Type 0
PartFits old (Alone call) replies new = (r : Result Answer Refusal) × (replies ≡ r ∷ []) × SeatsFit old call r new
PartFits old (Together calls) replies new = StretchFits old calls replies new

-- what parts are told that are made one after another, and what the seats are then
abbrev pub PartsFit : Seating → List Part → List (Result Answer Refusal) → Seating → Type 0
PartsFit old [] replies new = (replies ≡ []) × (new ≡ old)
PartsFit old (part ∷ parts) replies new =
    (next : Seating) × (told : List (Result Answer Refusal)) × (others : List (Result Answer Refusal))
    × (replies ≡ told ++ others) × PartFits old part told next × PartsFit next parts others new

-- a call of the part is made at no seat
abbrev pub IsNowhere : List Seated → Part → Type 0
IsNowhere seats (Alone call) = (is_by_connection call ≡ false) × (owner_of seats call ≡ length seats)
IsNowhere seats (Together calls) = IsUnseated seats calls

-- a run stops at one of the parts: those before it were made, and told so; of it and of those behind it no call was made, since
-- one of its calls is made at no seat, or memory was wanted
pub record StopsAt (old : Seating) (parts : List Part) (replies : List (Result Answer Refusal)) (fault : StretchFault) (new : Seating) : Type 0 where
  pub before : List Part
  pub part : Part
  pub behind : List Part
  pub stands : parts ≡ before ++ part ∷ behind
  pub fit : PartsFit old before replies new
  pub cause : OnNoSeat fault (IsNowhere new.seats part)

-- the seats of those sessions as a run begins, in that opening of the provider: none is open yet, and no call was made
pub record AreNew (opening : ℕ) (sessions : List SessionId) (seating : Seating) : Type 0 where
  pub halves : map (λ seat. seat.half) seating.seats ≡ map (unopened_at opening) sessions
  pub unused : All (λ seat. IsUnused seat.pass) seating.seats
  pub connections : IsUnused seating.connections

-- the passes of all calls that were made: that of the connections, and those of the seats
abbrev pub passes_of : Seating → List Calls
passes_of seating = seating.connections ∷ map (λ seat. seat.pass) seating.seats
