use Rattle.std.proofs.Common.{◌≡◌, ◌≤◌, ◌<◌, ℕ, length, vec_len}
use Rattle.std.specs.Prelude.{slice_index_or}
use Rattle.jm_seats.specs.Desks.{seats_at, IsReady}
use Rattle.jm_seats.proofs.stretch.lay_out.Given as goal

abbrev pub invariant-loop-place : goal.invariant-loop-place
invariant-loop-place g l = record {
  len : length l.desks ≡ length l.initial.desks;
  seats : seats_at l.desks ≡ seats_at l.initial.desks;
  count : vec_len l.parts ≡ vec_len l.fn.parts;
  calls : (k : ℕ) (d : _) (e : _) → k < l.place → (slice_index_or l.desks k d).calls.items ≡ (slice_index_or l.fn.parts.items k e).items;
  ready : (k : ℕ) (d : _) → k < l.place → IsReady (slice_index_or l.desks k d);
  left : (k : ℕ) (e : _) → l.place ≤ k → slice_index_or l.parts.items k e ≡ slice_index_or l.fn.parts.items k e;
}
