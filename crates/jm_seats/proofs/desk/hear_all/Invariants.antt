use Rattle.std.proofs.Common.{◌≡◌, ◌≤◌, ◌<◌, ℕ, length}
use Rattle.std.specs.Prelude.{slice_index_or}
use Rattle.jm_seats.specs.Seats.{heard}
use Rattle.jm_seats.proofs.desk.hear_all.Given as goal

abbrev pub invariant-loop-desk : goal.invariant-loop-desk
invariant-loop-desk g l = record {
  heard : (k : ℕ) (d : _) → k < l.desk-index → (slice_index_or l.desks k d).seat ≡ heard l.who l.request l.reply (slice_index_or l.initial.desks k d).seat;
  left : (k : ℕ) (d : _) → l.desk-index ≤ k → k < length l.desks → slice_index_or l.desks k d ≡ slice_index_or l.initial.desks k d;
}
