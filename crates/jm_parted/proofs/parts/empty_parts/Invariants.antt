use Rattle.std.proofs.Common.{◌≡◌, ◌<◌, ℕ, [], vec_len}
use Rattle.std.specs.Prelude.{slice_index_or}
use Rattle.jm_parted.proofs.parts.empty_parts.Given as goal

abbrev pub invariant-loop : goal.invariant-loop
invariant-loop g l = record {
  len : vec_len l.parts ≡ l.counter;
  empty : (k : ℕ) (d : _) → k < l.counter → (slice_index_or l.parts.items k d).items ≡ [];
}
