use Rattle.std.proofs.Common.{◌≡◌, ◌≤◌, length, vec_len}
use Rattle.std.specs.Vec.{vec_capacity}
use Rattle.jm_seats.specs.Seat.{SeatRan}
use Rattle.jm_seats.proofs.desk.call_all.Given as goal

abbrev pub invariant-loop-call : goal.invariant-loop-call
invariant-loop-call g l = record {
  ran : SeatRan l.initial.seat l.yielded l.replies.items l.seat;
  count : vec_len l.replies ≡ length l.yielded;
  room : length l.fn.calls.items ≤ vec_capacity l.replies;
}
