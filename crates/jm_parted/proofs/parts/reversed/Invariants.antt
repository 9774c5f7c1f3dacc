use Rattle.std.proofs.Common.{◌≡◌, ◌≤◌, ◌<◌, ℕ, length, reverse, vec_len}
use Rattle.std.specs.Prelude.{slice_index_or}
use Rattle.jm_parted.proofs.parts.reversed.Given as goal

abbrev pub invariant-loop-part : goal.invariant-loop-part
invariant-loop-part g l = record {
  done : (k : ℕ) (d : _) → k < l.part-index → (slice_index_or l.parts k d).items ≡ reverse (slice_index_or l.initial.parts k d).items;
  lens : (k : ℕ) (d : _) → k < l.part-index → vec_len (slice_index_or l.parts k d) ≡ vec_len (slice_index_or l.initial.parts k d);
  left : (k : ℕ) (d : _) → l.part-index ≤ k → k < length l.parts → slice_index_or l.parts k d ≡ slice_index_or l.initial.parts k d;
}
