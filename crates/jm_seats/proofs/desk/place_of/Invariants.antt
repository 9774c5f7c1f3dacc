use Rattle.std.proofs.Common.{◌≡◌, ◌+◌, drop}
use Rattle.jm_seats.specs.Desks.{seats_at}
use Rattle.jm_seats.specs.Seats.{place_of}
use Rattle.jm_seats.proofs.desk.place_of.Given as goal

abbrev pub invariant-loop-place : goal.invariant-loop-place
invariant-loop-place g l = place_of (seats_at l.desks) l.session ≡ l.place + place_of (seats_at (drop l.place l.desks)) l.session
