use Rattle.std.proofs.Common.{◌≡◌, ◌≤◌, ◌<◌, ℕ, length, vec_len}
use Rattle.std.specs.Prelude.{slice_index_or}
use Rattle.std.specs.Vec.{vec_capacity}
use Rattle.jm_seats.specs.Desks.{seats_at}
use Rattle.jm_seats.proofs.stretch.gather.Given as goal

abbrev pub invariant-loop-desk : goal.invariant-loop-desk
invariant-loop-desk g l = record {
  len : vec_len l.told ≡ l.desk-index;
  room : length l.desks ≤ vec_capacity l.told;
  seats : seats_at l.desks ≡ seats_at l.initial.desks;
  told : (k : ℕ) (d : _) (e : _) → k < l.desk-index → (slice_index_or l.told.items k d).items ≡ (slice_index_or l.initial.desks k e).replies.items;
  left : (k : ℕ) (d : _) → l.desk-index ≤ k → k < length l.desks → slice_index_or l.desks k d ≡ slice_index_or l.initial.desks k d;
}
