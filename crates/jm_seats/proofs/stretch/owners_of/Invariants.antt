use Rattle.std.proofs.Common.{◌≡◌, ◌≤◌, ◌<◌, length, take, vec_len}
use Rattle.std.specs.Prelude.{All}
use Rattle.std.specs.Vec.{vec_capacity}
use Rattle.jm_seats.specs.Desks.{seats_at}
use Rattle.jm_seats.specs.Seats.{owners_of}
use Rattle.jm_seats.proofs.stretch.owners_of.Given as goal

abbrev pub invariant-loop-call : goal.invariant-loop-call
invariant-loop-call g l = record {
  owners : l.owners.items ≡ owners_of (seats_at l.desks) (take l.call-index l.calls);
  below : All (λ owner. owner < length l.desks) l.owners.items;
  count : vec_len l.owners ≡ l.call-index;
  room : length l.calls ≤ vec_capacity l.owners;
}
