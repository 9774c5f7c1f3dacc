use Rattle.std.proofs.Common.{◌≡◌, ◌≤◌, length, map, take, vec_len}
use Rattle.std.specs.Prelude.{All}
use Rattle.std.specs.Vec.{vec_capacity}
use Rattle.jm_seats.specs.Desks.{seats_at}
use Rattle.jm_seats.specs.Seats.{unopened_at, IsUnused}
use Rattle.jm_seats.proofs.seats.Seats.new.Given as goal

abbrev pub invariant-loop-session : goal.invariant-loop-session
invariant-loop-session g l = record {
  halves : map (λ seat. seat.half) (seats_at l.desks.items) ≡ map (unopened_at l.opening) (take l.session-index l.sessions);
  unused : All (λ seat. IsUnused seat.pass) (seats_at l.desks.items);
  count : vec_len l.desks ≡ l.session-index;
  room : length l.sessions ≤ vec_capacity l.desks;
}
